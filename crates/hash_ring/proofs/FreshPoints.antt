-- The points of one server, sorted, each once.
use Rattle.std.proofs.Common.{◌≡◌, ℕ, ◌<◌, Bool, true, suc, List, [], ◌∷◌, length, arith, get_or, refl, sym, ◌∙◌, subst}
use Rattle.std.specs.List.{Contains, dedup}
use Rattle.std.specs.List.Sorted.{IsPermutation, IsSorted, IsStrictlySortedBy}
use Rattle.std.specs.Ordering.{eq_by_cmp, is_eq}
use Rattle.std.specs.declared.cmp.Ordering.{Ordering}
use Rattle.std.specs.declared.cmp.Ordering.TheVariants.{Less, Equal, Greater}
use Rattle.std.proofs.lemmas.Cmp.{eq_by_cmp_equiv}
use Rattle.std.proofs.lemmas.List.Kept.{IsStrictlySortedBy-dedup, Contains-dedup, Contains-from_dedup}
use Rattle.std.proofs.lemmas.Map.Keys.{Less-from_sorted}
use Rattle.std.proofs.lemmas.List.Sorted.{Contains-permutation, IsPermutation-sym}
use Rattle.change_core.specs.Ascending.{ascending, In, IsAscending, IsExact}
use Rattle.change_core.proofs.Order.{ascending_is}
use Rattle.hash_ring.proofs.Placed.{in_at, at_in}

pub in_of_contains : {X : Type 0} (x : X) (xs : List X) → Contains xs x → In x xs
in_of_contains x xs h = subst (λ y. In y xs) h.2 (in_at xs h.0 x h.1)

pub contains_of_in : {X : Type 0} (x : X) (xs : List X) → In x xs → Contains xs x
contains_of_in x xs h = let m = at_in x xs h in (m.0, m.1, m.2 x)

ascends_by_place : {X : Type 0} (R : X → X → Ordering) (xs : List X) → ((i j : ℕ) (d : X) → i < j → j < length xs → R (get_or xs i d) (get_or xs j d) ≡ Less) → IsAscending R xs
ascends_by_place R [] f = tt
ascends_by_place R (x ∷ xs) f = (
  (λ y h. let m = at_in y xs h in subst (λ z. R x z ≡ Less) (m.2 x) (f 0 (suc m.0) x (omega arith) (omega (arith, m.1)))),
  ascends_by_place R xs (λ i j d l k. f (suc i) (suc j) d (omega arith) (omega arith)),
)

strictly_ascends : {X : Type 0} (R : X → X → Ordering) (xs : List X) → IsStrictlySortedBy R xs → IsAscending R xs
strictly_ascends R xs h = ascends_by_place R xs (λ i j d l k. Less-from_sorted R xs i j d h l k)

tied_equal : (r : Ordering) → is_eq r ≡ true → r ≡ Equal
tied_equal Less h = cc h
tied_equal Equal h = refl
tied_equal Greater h = cc h

-- what a sort and a `dedup` make of a list are its members, ascending
pub ascending-sorted : {X : Type 0} {R : X → X → Ordering} (o : IsExact R) (E : X → X → Bool) → ((x y : X) → E x y ≡ eq_by_cmp R x y) → (xs ys zs : List X) → IsPermutation xs ys → IsSorted R ys → zs ≡ dedup E ys → zs ≡ ascending R xs
ascending-sorted {X = X} {R = R} o E ties xs ys zs p s e =
    let once : zs ≡ dedup (eq_by_cmp R) ys = e ∙ (λ i. dedup (λ x y. ties x y i) ys) in
    let equal : (x y : X) → eq_by_cmp R x y ≡ true → x ≡ y = λ x y h. o.same x y (tied_equal (R x y) h) in
    ascending_is o xs zs
    (subst (IsAscending R) (sym once) (strictly_ascends R (dedup (eq_by_cmp R) ys) (IsStrictlySortedBy-dedup o.total (λ x y. refl) ys s)))
    (λ z h. in_of_contains z xs (Contains-permutation ys xs z (IsPermutation-sym xs ys p) (Contains-from_dedup (eq_by_cmp R) ys z (contains_of_in z (dedup (eq_by_cmp R) ys) (subst (In z) once h)))))
    (λ z h. subst (In z) (sym once) (in_of_contains z (dedup (eq_by_cmp R) ys) (Contains-dedup (eq_by_cmp_equiv o.total) equal ys z (Contains-permutation xs ys z p (contains_of_in z xs h)))))
