-- The first servers of a list of points, up to a count, and those of a ring.
use Rattle.std.proofs.Common.{◌≡◌, ℕ, zero, suc, ◌+◌, ◌^◌, ◌<◌, ◌≤◌, true, false, List, [], ◌∷◌, ◌++◌, take, drop, length, get_or, ap, sym, ◌∙◌, subst, inl, inr, arith, append_assoc, length-take, length-append, min}
use Rattle.std.proofs.lemmas.List.{length-map, take_all, take-append-le, take-append-drop, append-nil, drop_more}
use Rattle.std.proofs.lemmas.Bool.{cases_lt}
use Rattle.change_core.specs.declared.addresses.Address.{Address}
use Rattle.std.specs.Ordering.{nat_cmp}
use Rattle.change_core.proofs.Ascends.{address_exact}
use Rattle.change_core.proofs.Order.{in_put, put_new, put_old, put_ascends, in_append, in_append_left, in_append_right}
use Rattle.hash_ring.proofs.Placed.{put_there}
use Rattle.hash_ring.specs.Steps.{firsts, has, IsSorted}
use Rattle.hash_ring.specs.declared.points.Point.{Point}
use Rattle.hash_ring.specs.declared.servers.Server.{Server}
use Rattle.std.specs.declared.cmp.Ordering.{Ordering}
use Rattle.std.specs.Ordering.{is_lt, is_eq}
use Rattle.change_core.specs.Ascending.{put, ascending, In}
use Rattle.hash_ring.specs.Servers.{addresses_of, address_of_server}
use Rattle.hash_ring.specs.Points.{by_distance, owners}
use Rattle.hash_ring.specs.RingModel.{IsRing}
use Rattle.hash_ring.proofs.Firsts.{firsts_seen, firsts_new, test_cases, has_in, in_has}
use Rattle.hash_ring.proofs.Walk.{walk_owners}

pub firsts-append : (named : List Address) (xs ys : List Point) → firsts named (xs ++ ys) ≡ firsts named xs ++ firsts (named ++ firsts named xs) ys
firsts-append named [] ys = ap (λ ns. firsts ns ys) (sym (append-nil named))
firsts-append named (x ∷ xs) ys =
    test_cases _ (has named x.server)
    (λ s. rw (s, firsts-append named xs ys))
    (λ s. rw (s, firsts-append (named ++ x.server ∷ []) xs ys, append_assoc named (x.server ∷ []) (firsts (named ++ x.server ∷ []) xs)))

-- as many as are wanted are named
pub named_enough : (n : ℕ) (named more : List Address) → n ≤ length named → length named ≤ n → take n (named ++ more) ≡ named
named_enough n named more h k = take-append-le n named more h ∙ take_all n named k

-- a point of a server that is named, and one of another
pub named_old : (named : List Address) (p : Point) (ps : List Point) → has named p.server ≡ true → named ++ firsts named (p ∷ ps) ≡ named ++ firsts named ps
named_old named p ps h = ap (λ zs. named ++ zs) (firsts_seen named p ps h)

pub named_new : (named : List Address) (p : Point) (ps : List Point) → has named p.server ≡ false → named ++ firsts named (p ∷ ps) ≡ (named ++ p.server ∷ []) ++ firsts (named ++ p.server ∷ []) ps
named_new named p ps h = ap (λ zs. named ++ zs) (firsts_new named p ps h) ∙ sym (append_assoc named (p.server ∷ []) (firsts (named ++ p.server ∷ []) ps))

-- one part of the points after the other
pub named_in_parts : (n : ℕ) (xs ys : List Point) (some all : List Address) → some ≡ take n (firsts [] xs) → all ≡ take n (some ++ firsts some ys) → all ≡ take n (firsts [] (xs ++ ys))
named_in_parts n xs ys some all e f =
    elim (cases_lt n (length (firsts [] xs))) [
      | inl less ↦
          let long : length some ≡ n = ap length e ∙ (length-take n (firsts [] xs) ∙ omega arith) in
          f ∙ (named_enough n some (firsts some ys) (omega arith) (omega arith) ∙ (e ∙ (sym (take-append-le n (firsts [] xs) (firsts (firsts [] xs) ys) (omega arith)) ∙ ap (take n) (sym (firsts-append [] xs ys)))))
      | inr few ↦
          let whole : some ≡ firsts [] xs = e ∙ take_all n (firsts [] xs) few in
          f ∙ (ap (λ ns. take n (ns ++ firsts ns ys)) whole ∙ ap (take n) (sym (firsts-append [] xs ys)))
    ]

-- the servers met from a key's place on, around, are its owners
pub ring_owners : (hash : List ℕ → ℕ) (replicas : ℕ) (servers : List Server) (ps xs : List Point) (key : List ℕ) (i : ℕ) (from : ℕ) {spare : ℕ} → IsRing hash replicas servers ps spare → from ≡ hash key → from < 2 ^ 64 → xs ≡ ps → ((p : Point) → In p (take i xs) → p.hash < from) → ((p : Point) → In p (drop i xs) → from ≤ p.hash) → firsts [] (drop i xs ++ take i xs) ≡ owners hash replicas servers key
ring_owners hash replicas servers ps xs key i from ring e small same low high =
    walk_owners hash replicas (omega (arith, ring.replicas_fit.0)) servers ring.servers_fit.once ring.servers_fit.weighed key (take i xs) (drop i xs)
    (sym ring.points_are ∙ (sym same ∙ sym (take-append-drop i xs)))
    (omega (arith, e))
    (λ p h. omega (arith, e, low p h))
    (λ p h. (omega (arith, e, high p h), ring.small p (subst (In p) same (in_drop p i xs h))))
  where
    in_drop : (p : Point) (i : ℕ) (xs : List Point) → In p (drop i xs) → In p xs
    in_drop p zero xs h = h
    in_drop p (suc i) [] h = h
    in_drop p (suc i) (x ∷ xs) h = inr (in_drop p i xs h)

-- a step past the point x at i, whose server is named, or is named now
pub named_more_old : (n : ℕ) (named new : List Address) (ps : List Point) (i : ℕ) (x : Point) → x ≡ get_or ps i x → i < length ps → has named x.server ≡ true → new ≡ named → take n (new ++ firsts new (drop (i + 1) ps)) ≡ take n (named ++ firsts named (drop i ps))
named_more_old n named new ps i x at low h e =
    ap (λ ns. take n (ns ++ firsts ns (drop (i + 1) ps))) e
    ∙ ap (take n) (sym (named_old named x (drop (i + 1) ps) h) ∙ ap (λ qs. named ++ firsts named qs) (ap (λ p. p ∷ drop (i + 1) ps) at ∙ sym (drop_more ps i x low)))

pub named_more_new : (n : ℕ) (named new : List Address) (ps : List Point) (i : ℕ) (x : Point) → x ≡ get_or ps i x → i < length ps → has named x.server ≡ false → new ≡ named ++ x.server ∷ [] → take n (new ++ firsts new (drop (i + 1) ps)) ≡ take n (named ++ firsts named (drop i ps))
named_more_new n named new ps i x at low h e =
    ap (λ ns. take n (ns ++ firsts ns (drop (i + 1) ps))) e
    ∙ ap (take n) (sym (named_new named x (drop (i + 1) ps) h) ∙ ap (λ qs. named ++ firsts named qs) (ap (λ p. p ∷ drop (i + 1) ps) at ∙ sym (drop_more ps i x low)))

-- the points from i on, and then those before
pub named_around : (n i : ℕ) (ps prefix back : List Point) (none some all : List Address) → none ≡ [] → prefix ≡ take i ps → back ≡ drop i ps → some ≡ take n (none ++ firsts none back) → all ≡ take n (some ++ firsts some prefix) → all ≡ take n (firsts [] (drop i ps ++ take i ps))
named_around n i ps prefix back none some all e f g h k =
    named_in_parts n (drop i ps) (take i ps) some all
    (h ∙ (ap (λ z. take n (z ++ firsts z back)) e ∙ ap (λ qs. take n (firsts [] qs)) g))
    (k ∙ ap (λ qs. take n (some ++ firsts some qs)) f)

length-put : {K : Type 0} (R : K → K → Ordering) (x : K) (ys : List K) → length (put R x ys) ≤ length ys + 1
length-put R x [] = omega arith
length-put R x (y ∷ ys) =
    let rest = length-put R x ys in
    test_cases _ (is_lt (R x y)) (λ l. rw l (omega arith)) (λ l. test_cases _ (is_eq (R x y)) (λ e. rw (l, e) (omega arith)) (λ e. rw (l, e) (omega (arith, rest))))

pub length-ascending : {K : Type 0} (R : K → K → Ordering) (xs : List K) → length (ascending R xs) ≤ length xs
length-ascending R [] = omega arith
length-ascending R (x ∷ xs) = omega (arith, length-ascending R xs, length-put R x (ascending R xs))

-- there are no more owners than servers
pub owners_enough : (hash : List ℕ → ℕ) (replicas : ℕ) (servers : List Server) (key : List ℕ) (count n : ℕ) → n ≡ min count (length servers) → take n (owners hash replicas servers key) ≡ take count (owners hash replicas servers key)
owners_enough hash replicas servers key count n e =
    let all = owners hash replicas servers key in
    let few : length all ≤ length servers = omega (arith, length-ascending (by_distance hash replicas servers key) (addresses_of servers), length-map servers address_of_server) in
    elim (cases_lt count (length servers)) [
      | inl less ↦ let same : n ≡ count = omega arith in ap (λ k. take k all) same
      | inr le ↦ take_all n all (omega arith) ∙ sym (take_all count all (omega (arith, few, le)))
    ]

-- ---- those named, sorted

pub IsSorted-none : (named sorted : List Address) → named ≡ [] → sorted ≡ [] → IsSorted named sorted
IsSorted-none named sorted e f = subst (λ ns. IsSorted ns sorted) (sym e) (subst (IsSorted []) (sym f) (record {
  ascends = tt;
  listed = λ a h. h;
  all = λ a h. h;
  fits = omega arith;
}))

-- a server that is not there is named, and put in
pub IsSorted-put : (a : Address) (named new sorted after : List Address) → IsSorted named sorted → new ≡ named ++ a ∷ [] → after ≡ put nat_cmp a sorted → IsSorted new after
IsSorted-put a named new sorted after is e f =
    subst (λ ns. IsSorted ns after) (sym e) (subst (IsSorted (named ++ a ∷ [])) (sym f) (record {
      ascends = put_ascends address_exact a sorted is.ascends;
      listed = λ b h. elim (in_put address_exact a b sorted h) [
        | inl q ↦ in_append_right b named (a ∷ []) (inl q)
        | inr k ↦ in_append_left b named (a ∷ []) (is.listed b k)
      ];
      all = λ b h. elim (in_append b named (a ∷ []) h) [
        | inl k ↦ put_old address_exact a b sorted (is.all b k)
        | inr (inl q) ↦ subst (λ c. In c (put nat_cmp a sorted)) (sym q) (put_new address_exact a sorted)
        | inr (inr n) ↦ absurd n
      ];
      fits = omega (arith, length-put nat_cmp a sorted, is.fits, length-append named (a ∷ []));
    }))

-- and one that is there changes nothing
pub IsSorted-there : (a : Address) (named new sorted after : List Address) → IsSorted named sorted → In a sorted → new ≡ named → after ≡ put nat_cmp a sorted → IsSorted new after
IsSorted-there a named new sorted after is h e f =
    subst (λ ns. IsSorted ns after) (sym e) (subst (IsSorted named) (sym (f ∙ put_there address_exact a sorted is.ascends h)) is)

pub has_sorted : (named sorted : List Address) (a : Address) → IsSorted named sorted → In a sorted → has named a ≡ true
has_sorted named sorted a is h = in_has named a (is.listed a h)

pub has_unsorted : (named sorted : List Address) (a : Address) → IsSorted named sorted → ¬ In a sorted → has named a ≡ false
has_unsorted named sorted a is n = test_cases _ (has named a) (λ t. absurd (n (is.all a (has_in named a t)))) (λ f. f)
