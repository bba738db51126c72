-- The pending list as it is kept: by entries of a map, and by an index that goes up.
use Rattle.std.proofs.Common.{◌≡◌, ℕ, zero, suc, ◌+◌, ◌-◌, ◌*◌, ◌^◌, ◌<◌, ◌≤◌, ◌==◌, Bool, true, false, ◌&&◌, nat_eq, nat_lt, if◌then◌else◌, cond, List, [], ◌∷◌, ◌++◌, length, map, filter, take, drop, set, slice_get, Some, refl, sym, ap, ◌∙◌, subst, All, Option, None, unwrap_or, IfNone, IfSome, Result, Ok, Err, OnOk, OnErr, arith, append_assoc, append-nil, add-one, drop-cons, eqb-true, get_or, true≢false, ◌≢◌, ◌⊎◌, is_some, inl, inr, length-append, min}
use Rattle.std.proofs.Math.Nat.{pow-le-pow_right, pow-suc, one-le-pow}
use Rattle.std.proofs.Math.Bool.{and-false}
use Rattle.std.proofs.lemmas.Bool.{ltb-true, lt-ltb, eqb-false}
use Rattle.std.proofs.lemmas.Bool.Decides.{Decides-eqb}
use Rattle.std.proofs.lemmas.Int.Digits.{length-digits_of-le, number_lt, number_digits_of, all_below_base_digits_of}
use Rattle.std.proofs.lemmas.List.{map-append, take-append-drop, drop_all, take_more, take_more_set, drop-set-lt, get_or-map, length-map, take_all}
use Rattle.std.proofs.lemmas.List.Elements.{All-cons, All-nil, All-tail, filter_passes}
use Rattle.std.proofs.lemmas.Map.Made.{AllPairs-from_IsDistinct}
use Rattle.std.proofs.lemmas.Option.{get_or_from_slice_get, slice_get_within}
use Rattle.std.specs.Int.Digits.{digits_of}
use Rattle.std.specs.List.{IsDistinct, list_all}
use Rattle.std.specs.Map.{keys_of, values_of, lookup}
use Rattle.indexmap.specs.IndexMap.{insert_entry, set_value_at}
use Rattle.change_core.specs.declared.changes.Sourced.{Sourced}
use Rattle.gossip_core.specs.declared.pending.Pending.{Pending}
use Rattle.gossip_core.specs.Pending.{digit_count, subject, fresh, put_pending, may_go_to, issued, once_more, below, NoneAbout, OnePerAddress, AllBelow}

-- the digits of a number between two powers of ten
pub digit_count_between : (n k : ℕ) → 0 < n → 10 ^ k ≤ n → n < 10 * 10 ^ k → length (digits_of 10 n) ≡ k + 1
digit_count_between n k some least most =
    let ds = digits_of 10 n in
    let next : 10 ^ suc k ≡ 10 ^ k * 10 = pow-suc 10 k in
    let below_next : n < 10 ^ (k + 1) = rw add-one (omega (arith, next)) in
    let upper : length ds ≤ k + 1 = length-digits_of-le 10 (k + 1) n (omega arith) below_next in
    let value : n < 10 ^ length ds = rw (number_digits_of 10 n (omega arith)) at (number_lt 10 ds (all_below_base_digits_of 10 n (omega arith))) in
    let lower : length ds ≤ k → n < 10 ^ k = λ h. omega (arith, value, pow-le-pow_right {n = 10} (omega arith) h) in
    by_cases (length ds) k upper (λ h. omega (arith, lower h))
  where
    by_cases : (l k : ℕ) → l ≤ k + 1 → (l ≤ k → ⊥) → l ≡ k + 1
    by_cases l k upper lower = grind arith

-- the values after a write by index
pub values_of-set_value_at : {K X : Type 0} (es : List (K × X)) (i : ℕ) (w : X) → values_of (set_value_at es i w) ≡ set (values_of es) i w
values_of-set_value_at [] zero w = refl
values_of-set_value_at [] (suc i) w = refl
values_of-set_value_at (e ∷ es) zero w = refl
values_of-set_value_at (e ∷ es) (suc i) w = ap (λ l. e.1 ∷ l) (values_of-set_value_at es i w)

-- the values of the entries that a test of the value keeps
pub values_of-filter : {K X : Type 0} (test : X → Bool) (es : List (K × X)) → values_of (filter (λ e. test e.1) es) ≡ filter test (values_of es)
values_of-filter test [] = refl
values_of-filter test (e ∷ es) =
    elim (test e.1) as (λ b. values_of (cond b (e ∷ filter (λ e. test e.1) es) (filter (λ e. test e.1) es)) ≡ cond b (e.1 ∷ filter test (values_of es)) (filter test (values_of es)))
    [ true ↦ ap (λ l. e.1 ∷ l) (values_of-filter test es) | false ↦ values_of-filter test es ]

drop_at : {X : Type 0} (xs : List X) (i : ℕ) (x : X) → slice_get xs i ≡ Some x → drop i xs ≡ x ∷ drop (i + 1) xs
drop_at xs i x h =
    rw add-one (drop-cons xs i x (slice_get_within xs i x h) ∙ ap (λ y. y ∷ drop (suc i) xs) (get_or_from_slice_get xs i x x h))

-- `counted` as the list is gone along, with k still to be issued
abbrev pub counted_along : ℕ → ℕ → List Pending → List Pending
counted_along t k [] = []
counted_along t k (p ∷ ps) =
    if nat_lt 0 k && may_go_to t p then once_more p ∷ counted_along t (k - 1) ps else p ∷ counted_along t k ps

-- none is left to issue
pub counted_along-none : (t : ℕ) (ps : List Pending) → counted_along t 0 ps ≡ ps
counted_along-none t [] = refl
counted_along-none t (p ∷ ps) = ap (λ l. p ∷ l) (counted_along-none t ps)

-- one more of the changes
pub sourced-take_more : (xs : List Pending) (i : ℕ) (p : Pending) → slice_get xs i ≡ Some p → map (λ p. p.sourced) (take i xs) ++ p.sourced ∷ [] ≡ map (λ p. p.sourced) (take (i + 1) xs)
sourced-take_more xs i p at =
    let more : take (i + 1) xs ≡ take i xs ++ p ∷ [] = take_more xs i p (slice_get_within xs i p at) ∙ ap (λ y. take i xs ++ y ∷ []) (get_or_from_slice_get xs i p p at) in
    sym (ap (map (λ p. p.sourced)) more ∙ map-append (λ p. p.sourced) (take i xs) (p ∷ []))

-- the first is issued
pub counted_along-cons_yes : (t k : ℕ) (p : Pending) (ps : List Pending) → 0 < k → may_go_to t p ≡ true → counted_along t k (p ∷ ps) ≡ once_more p ∷ counted_along t (k - 1) ps
counted_along-cons_yes t k p ps some may = ap (λ b. if b then once_more p ∷ counted_along t (k - 1) ps else p ∷ counted_along t k ps) (λ j. lt-ltb 0 k some j && may j)

-- the first came from the target
pub counted_along-cons_no : (t k : ℕ) (p : Pending) (ps : List Pending) → may_go_to t p ≡ false → counted_along t k (p ∷ ps) ≡ p ∷ counted_along t k ps
counted_along-cons_no t k p ps may = ap (λ b. if b then once_more p ∷ counted_along t (k - 1) ps else p ∷ counted_along t k ps) (ap (λ b. nat_lt 0 k && b) may ∙ and-false (nat_lt 0 k))

-- nothing is issued of nothing
pub issued-nil : (t k : ℕ) → issued t k [] ≡ []
issued-nil t zero = refl
issued-nil t (suc k) = refl

-- the first is issued
pub issued-cons_yes : (t k : ℕ) (p : Pending) (ps : List Pending) → 0 < k → may_go_to t p ≡ true → issued t k (p ∷ ps) ≡ p.sourced ∷ issued t (k - 1) ps
issued-cons_yes t zero p ps some may = absurd (omega (arith, some))
issued-cons_yes t (suc k) p ps some may =
    let one_less : k ≡ suc k - 1 = omega arith in
    ap (λ b. map (λ p. p.sourced) (take (suc k) (cond b (p ∷ filter (may_go_to t) ps) (filter (may_go_to t) ps)))) may ∙ ap (λ l. p.sourced ∷ issued t l ps) one_less

-- the first came from the target
pub issued-cons_no : (t k : ℕ) (p : Pending) (ps : List Pending) → may_go_to t p ≡ false → issued t k (p ∷ ps) ≡ issued t k ps
issued-cons_no t k p ps may = ap (λ b. map (λ p. p.sourced) (take k (cond b (p ∷ filter (may_go_to t) ps) (filter (may_go_to t) ps)))) may

-- one more change that may go
pub counted_yes : (t k i : ℕ) (xs : List Pending) (p : Pending) → i < length xs → slice_get xs i ≡ Some p → 0 < k → may_go_to t p ≡ true
    → take i xs ++ counted_along t k (drop i xs) ≡ take (i + 1) (set xs i (once_more p)) ++ counted_along t (k - 1) (drop (i + 1) (set xs i (once_more p)))
counted_yes t k i xs p within at some may =
    let rest = drop (i + 1) xs in
    let prefix : take (i + 1) (set xs i (once_more p)) ≡ take i xs ++ once_more p ∷ [] = take_more_set xs i (once_more p) within in
    let back : drop (i + 1) (set xs i (once_more p)) ≡ rest = drop-set-lt (i + 1) xs i (once_more p) (omega arith) in
    let whole : counted_along t k (drop i xs) ≡ once_more p ∷ counted_along t (k - 1) rest = ap (counted_along t k) (drop_at xs i p at) ∙ counted_along-cons_yes t k p rest some may in
    let joined = append_assoc (take i xs) (once_more p ∷ []) (counted_along t (k - 1) rest) in
    let right : take (i + 1) (set xs i (once_more p)) ++ counted_along t (k - 1) (drop (i + 1) (set xs i (once_more p))) ≡ (take i xs ++ once_more p ∷ []) ++ counted_along t (k - 1) rest =
    λ j. prefix j ++ counted_along t (k - 1) (back j) in
    ap (λ l. take i xs ++ l) whole ∙ sym joined ∙ sym right

-- one more change that stays as it is
pub counted_no : (t k i : ℕ) (xs : List Pending) (p : Pending) → i < length xs → slice_get xs i ≡ Some p → may_go_to t p ≡ false
    → take i xs ++ counted_along t k (drop i xs) ≡ take (i + 1) xs ++ counted_along t k (drop (i + 1) xs)
counted_no t k i xs p within at may =
    let rest = drop (i + 1) xs in
    let prefix : take (i + 1) xs ≡ take i xs ++ p ∷ [] =
    take_more xs i p within ∙ ap (λ y. take i xs ++ y ∷ []) (get_or_from_slice_get xs i p p at) in
    let whole : counted_along t k (drop i xs) ≡ p ∷ counted_along t k rest = ap (counted_along t k) (drop_at xs i p at) ∙ counted_along-cons_no t k p rest may in
    let joined = append_assoc (take i xs) (p ∷ []) (counted_along t k rest) in
    ap (λ l. take i xs ++ l) whole ∙ sym joined ∙ ap (λ l. l ++ counted_along t k rest) (sym prefix)

-- the first i have been looked at, the changes in `given` were issued, and the rest is unchanged
pub record IsIssuing (t k : ℕ) (old : List Pending) (given : List Sourced) (i : ℕ) (now : List Pending) : Type 0 where
  pub so_far : counted_along t k old ≡ take i now ++ counted_along t (k - length given) (drop i now)
  pub issued_is : issued t k old ≡ given ++ issued t (k - length given) (drop i now)
  pub within : length given ≤ k
  pub behind : length given ≤ i
  pub countable : All (λ p. p.count < 2 ^ 32 - 1) (drop i now)

room_left : (xs : List Pending) (i : ℕ) (p : Pending) → slice_get xs i ≡ Some p → All (λ p. p.count < 2 ^ 32 - 1) (drop i xs) → All (λ p. p.count < 2 ^ 32 - 1) (drop (i + 1) xs)
room_left xs i p at h = All-tail (λ p. p.count < 2 ^ 32 - 1) p (drop (i + 1) xs) (subst (All (λ p. p.count < 2 ^ 32 - 1)) (drop_at xs i p at) h)

-- memory is asked for only where something is
pub some_asked : (n k l : ℕ) → n ≡ min k l → (n ≡ 0 → ⊥) → (0 < k) × (0 < l)
some_asked n k l least some = (omega (arith, least, some), omega (arith, least, some))

-- nothing has been looked at
pub IsIssuing-none : (t k : ℕ) (old : List Pending) → All (λ p. p.count < 2 ^ 32 - 1) old → IsIssuing t k old [] 0 old
IsIssuing-none t k old countable =
    let all_left : k ≡ k - length {A = Sourced} [] = omega arith in
    record {
      so_far = ap (λ l. counted_along t l old) all_left;
      issued_is = ap (λ l. issued t l old) all_left;
      within = omega arith;
      behind = omega arith;
      countable = countable;
    }

-- the count of the change at i has room for one more
pub IsIssuing-countable : (t k : ℕ) (old : List Pending) (given : List Sourced) (i : ℕ) (now : List Pending) (p : Pending) → IsIssuing t k old given i now → slice_get now i ≡ Some p
    → p.count + 1 < 2 ^ 32
IsIssuing-countable t k old given i now p h at =
    let first : p.count < 2 ^ 32 - 1 = subst (All (λ p. p.count < 2 ^ 32 - 1)) (drop_at now i p at) h.countable 0 p (omega arith) in
    omega (arith, first)

-- the change at i is issued
pub IsIssuing-yes : (t k : ℕ) (old : List Pending) (given : List Sourced) (i : ℕ) (now : List Pending) (p : Pending) → IsIssuing t k old given i now → slice_get now i ≡ Some p
    → length given ≢ k → may_go_to t p ≡ true → IsIssuing t k old (given ++ p.sourced ∷ []) (i + 1) (set now i (once_more p))
IsIssuing-yes t k old given i now p h at more may =
    let within = slice_get_within now i p at in
    let some : 0 < k - length given = omega (arith, h.within, more) in
    let long : length (given ++ p.sourced ∷ []) ≡ length given + 1 = length-append given (p.sourced ∷ []) in
    let left : (k - length given) - 1 ≡ k - length (given ++ p.sourced ∷ []) = omega (arith, long) in
    let rest : drop (i + 1) (set now i (once_more p)) ≡ drop (i + 1) now = drop-set-lt (i + 1) now i (once_more p) (omega arith) in
    let counted_on = counted_yes t (k - length given) i now p within at some may in
    let one : issued t (k - length given) (drop i now) ≡ p.sourced ∷ issued t ((k - length given) - 1) (drop (i + 1) now) =
    ap (issued t (k - length given)) (drop_at now i p at) ∙ issued-cons_yes t (k - length given) p (drop (i + 1) now) some may in
    record {
      so_far = h.so_far ∙ counted_on ∙ ap (λ l. take (i + 1) (set now i (once_more p)) ++ counted_along t l (drop (i + 1) (set now i (once_more p)))) left;
      issued_is = h.issued_is ∙ ap (λ l. given ++ l) one ∙ sym (append_assoc given (p.sourced ∷ []) (issued t ((k - length given) - 1) (drop (i + 1) now)))
          ∙ (λ j. (given ++ p.sourced ∷ []) ++ issued t (left j) (sym rest j));
      within = omega (arith, long, h.within, more);
      behind = omega (arith, long, h.behind);
      countable = subst (All (λ p. p.count < 2 ^ 32 - 1)) (sym rest) (room_left now i p at h.countable);
    }

-- the change at i came from the target, and stays as it is
pub IsIssuing-no : (t k : ℕ) (old : List Pending) (given : List Sourced) (i : ℕ) (now : List Pending) (p : Pending) → IsIssuing t k old given i now → slice_get now i ≡ Some p
    → may_go_to t p ≡ false → IsIssuing t k old given (i + 1) now
IsIssuing-no t k old given i now p h at may =
    let within = slice_get_within now i p at in
    let one : issued t (k - length given) (drop i now) ≡ issued t (k - length given) (drop (i + 1) now) =
    ap (issued t (k - length given)) (drop_at now i p at) ∙ issued-cons_no t (k - length given) p (drop (i + 1) now) may in
    record {
      so_far = h.so_far ∙ counted_no t (k - length given) i now p within at may;
      issued_is = h.issued_is ∙ ap (λ l. given ++ l) one;
      within = h.within;
      behind = omega (arith, h.behind);
      countable = room_left now i p at h.countable;
    }

-- all have been looked at, or as many as may be have been issued
pub IsIssuing-all : (t k : ℕ) (old : List Pending) (given : List Sourced) (i : ℕ) (now : List Pending) → IsIssuing t k old given i now → (length now ≤ i) ⊎ (length given ≡ k)
    → (now ≡ counted_along t k old) × (given ≡ issued t k old)
IsIssuing-all t k old given i now h (inl all) =
    let none : drop i now ≡ [] = drop_all i now all in
    let whole : take i now ≡ now = take_all i now all in
    let none_issued : issued t (k - length given) (drop i now) ≡ [] = ap (issued t (k - length given)) none ∙ issued-nil t (k - length given) in (
      sym (h.so_far ∙ ap (λ l. take i now ++ counted_along t (k - length given) l) none ∙ append-nil (take i now) ∙ whole),
      sym (h.issued_is ∙ ap (λ l. given ++ l) none_issued ∙ append-nil given),
    )
IsIssuing-all t k old given i now h (inr full) =
    let none : k - length given ≡ 0 = omega (arith, full) in (
      sym (h.so_far ∙ ap (λ l. take i now ++ counted_along t l (drop i now)) none ∙ ap (λ l. take i now ++ l) (counted_along-none t (drop i now)) ∙ take-append-drop i now),
      sym (h.issued_is ∙ ap (λ l. given ++ issued t l (drop i now)) none ∙ append-nil given),
    )

-- a map's `insert` puts the change in its place
pub values_of-insert : (es : List (ℕ × Pending)) (s : Sourced) → map subject (values_of es) ≡ keys_of es → values_of (insert_entry nat_eq es s.change.address (fresh s)) ≡ put_pending (values_of es) s
values_of-insert [] s h = refl
values_of-insert (e ∷ es) s h =
    let here : subject e.1 ≡ e.0 = cc in
    let there : map subject (values_of es) ≡ keys_of es = cc in
    subst (λ a. values_of (if s.change.address == e.0 then (e.0, fresh s) ∷ es else e ∷ insert_entry nat_eq es s.change.address (fresh s)) ≡ (if s.change.address == a then fresh s ∷ values_of es else e.1 ∷ put_pending (values_of es) s)) (sym here)
    (elim (s.change.address == e.0) as (λ b. values_of (cond b ((e.0, fresh s) ∷ es) (e ∷ insert_entry nat_eq es s.change.address (fresh s))) ≡ cond b (fresh s ∷ values_of es) (e.1 ∷ put_pending (values_of es) s))
    [ true ↦ refl | false ↦ ap (λ l. e.1 ∷ l) (values_of-insert es s there) ])

-- and each change stands under its address still
pub by_address-insert : (es : List (ℕ × Pending)) (s : Sourced) → map subject (values_of es) ≡ keys_of es
    → map subject (values_of (insert_entry nat_eq es s.change.address (fresh s))) ≡ keys_of (insert_entry nat_eq es s.change.address (fresh s))
by_address-insert [] s h = refl
by_address-insert (e ∷ es) s h =
    let here : subject e.1 ≡ e.0 = cc in
    let there : map subject (values_of es) ≡ keys_of es = cc in
    by (s.change.address == e.0) refl here there (by_address-insert es s there)
  where
    by : (b : Bool) → (s.change.address == e.0) ≡ b → subject e.1 ≡ e.0 → map subject (values_of es) ≡ keys_of es
        → map subject (values_of (insert_entry nat_eq es s.change.address (fresh s))) ≡ keys_of (insert_entry nat_eq es s.change.address (fresh s))
        → (let new = cond b ((e.0, fresh s) ∷ es) (e ∷ insert_entry nat_eq es s.change.address (fresh s)) in map subject (values_of new) ≡ keys_of new)
    by true same here there rest = λ j. eqb-true s.change.address e.0 same j ∷ there j
    by false same here there rest = λ j. here j ∷ rest j

-- and so it does in the entries that a test of the value keeps
pub by_address-filter : (test : Pending → Bool) (es : List (ℕ × Pending)) → map subject (values_of es) ≡ keys_of es
    → map subject (values_of (filter (λ e. test e.1) es)) ≡ keys_of (filter (λ e. test e.1) es)
by_address-filter test [] h = refl
by_address-filter test (e ∷ es) h =
    let here : subject e.1 ≡ e.0 = cc in
    let there : map subject (values_of es) ≡ keys_of es = cc in
    elim (test e.1) as (λ b. (let new = cond b (e ∷ filter (λ e. test e.1) es) (filter (λ e. test e.1) es) in map subject (values_of new) ≡ keys_of new))
    [ true ↦ λ j. here j ∷ by_address-filter test es there j | false ↦ by_address-filter test es there ]

-- a count changes no subject
pub subjects-counted_along : (t k : ℕ) (ps : List Pending) → map subject (counted_along t k ps) ≡ map subject ps
subjects-counted_along t k [] = refl
subjects-counted_along t k (p ∷ ps) =
    elim (nat_lt 0 k && may_go_to t p) as (λ b. map subject (if b then once_more p ∷ counted_along t (k - 1) ps else p ∷ counted_along t k ps) ≡ subject p ∷ map subject ps)
    [ true ↦ ap (λ l. subject p ∷ l) (subjects-counted_along t (k - 1) ps) | false ↦ ap (λ l. subject p ∷ l) (subjects-counted_along t k ps) ]

-- so there is still one change for each address
pub OnePerAddress-counted_along : (t k : ℕ) (ps : List Pending) → OnePerAddress ps → OnePerAddress (counted_along t k ps)
OnePerAddress-counted_along t k ps one = λ i j d before within.
    let now = counted_along t k ps in
    let same = subjects-counted_along t k ps in
    let long : length now ≡ length ps = sym (length-map now subject) ∙ (ap length same ∙ length-map ps subject) in
    let at : (n : ℕ) → n < length now → subject (get_or now n d) ≡ subject (get_or ps n d) =
    λ n lt. sym (get_or-map subject now n d 0 lt) ∙ (ap (λ l. get_or l n 0) same ∙ get_or-map subject ps n d 0 (omega arith)) in
    λ e. one i j d before (omega arith) (sym (at i (omega arith)) ∙ (e ∙ at j within))

-- what is kept below the limit is below the limit
pub AllBelow-below : (limit : ℕ) (ps : List Pending) → AllBelow limit (below limit ps)
AllBelow-below limit ps = λ k d h. ltb-true _ limit (filter_passes (λ p. nat_lt p.count limit) ps k d h)

-- a change that was put has not been issued
pub AllBelow-put_pending : (limit : ℕ) (ps : List Pending) (s : Sourced) → 0 < limit → AllBelow limit ps → AllBelow limit (put_pending ps s)
AllBelow-put_pending limit [] s some h = All-cons (λ p. p.count < limit) (fresh s) [] some (λ k d i. absurd (omega arith))
AllBelow-put_pending limit (p ∷ ps) s some h =
    let rest = All-tail (λ p. p.count < limit) p ps h in
    elim (s.change.address == subject p) as (λ b. AllBelow limit (cond b (fresh s ∷ ps) (p ∷ put_pending ps s))) [
      | true ↦ All-cons (λ p. p.count < limit) (fresh s) ps some rest
      | false ↦ All-cons (λ p. p.count < limit) p (put_pending ps s) (h 0 p (omega arith)) (AllBelow-put_pending limit ps s some rest)
    ]

-- no two addresses of distinct keys are equal
pub OnePerAddress-from_keys : (ks : List ℕ) (ps : List Pending) → map subject ps ≡ ks → IsDistinct nat_eq ks → OnePerAddress ps
OnePerAddress-from_keys ks ps same distinct = λ i j d before within.
    let apart = AllPairs-from_IsDistinct Decides-eqb ks distinct in
    let at_i : get_or ks i 0 ≡ subject (get_or ps i d) = ap (λ l. get_or l i 0) (sym same) ∙ get_or-map subject ps i d 0 (omega arith) in
    let at_j : get_or ks j 0 ≡ subject (get_or ps j d) = ap (λ l. get_or l j 0) (sym same) ∙ get_or-map subject ps j d 0 within in
    let long : length ks ≡ length ps = ap length (sym same) ∙ length-map ps subject in
    λ e. apart i j 0 before (omega arith) (at_i ∙ e ∙ sym at_j)

-- the digits of a number by its logarithm
pub digit_count-from_log : (n : ℕ) (log : Option ℕ) → IfNone log (n ≡ 0) → IfSome log (λ k. 10 ^ k ≤ n) → IfSome log (λ k. n < 10 * 10 ^ k) → unwrap_or log 0 + 1 ≡ digit_count n
digit_count-from_log n None none least most = ap (λ n. digit_count n) (sym none)
digit_count-from_log n (Some k) none least most =
    let some : 0 < n = omega (arith, one-le-pow k 10 (omega arith)) in
    let no : (n == 0) ≡ false = grind arith in
    sym (digit_count_between n k some least most) ∙ sym (ap (λ b. if b then 1 else length (digits_of 10 n)) no)

-- after a `put` that may have been refused
pub AllBelow-put_or_not : {E : Type 0} (limit : ℕ) (old new : List Pending) (s : Sourced) (r : Result (Unit {0}) E) → 1 ≤ limit → AllBelow limit old
    → OnOk r (new ≡ put_pending old s) → OnErr r (new ≡ old) → AllBelow limit new
AllBelow-put_or_not limit old new s (Ok u) some h ok err = subst (AllBelow limit) (sym ok) (AllBelow-put_pending limit old s (omega arith) h)
AllBelow-put_or_not limit old new s (Err e) some h ok err = subst (AllBelow limit) (sym err) h

-- all are below the limit, so none goes
pub below-all : (limit : ℕ) (ps : List Pending) → list_all (λ p. nat_lt p.count limit) ps ≡ true → below limit ps ≡ ps
below-all limit [] h = refl
below-all limit (p ∷ ps) h = by (nat_lt p.count limit) h (below-all limit ps)
  where
    by : (b : Bool) → (b && list_all (λ p. nat_lt p.count limit) ps) ≡ true → (list_all (λ p. nat_lt p.count limit) ps ≡ true → below limit ps ≡ ps)
        → cond b (p ∷ below limit ps) (below limit ps) ≡ p ∷ ps
    by true rest same = ap (λ l. p ∷ l) (same rest)
    by false rest same = absurd (true≢false (sym rest))

-- no entry has the address as its key, so none is about it
pub NoneAbout-from_lookup : (a : ℕ) (es : List (ℕ × Pending)) → map subject (values_of es) ≡ keys_of es → lookup (nat_eq a) es ≡ None → NoneAbout a (values_of es)
NoneAbout-from_lookup a [] kept none = All-nil (λ p. subject p ≢ a)
NoneAbout-from_lookup a (e ∷ es) kept none =
    let here : subject e.1 ≡ e.0 = cc in
    let there : map subject (values_of es) ≡ keys_of es = cc in
    by (a == e.0) refl none here (NoneAbout-from_lookup a es there)
  where
    by : (b : Bool) → (a == e.0) ≡ b → cond b (Some e.1) (lookup (nat_eq a) es) ≡ None → subject e.1 ≡ e.0
        → (lookup (nat_eq a) es ≡ None → NoneAbout a (values_of es)) → NoneAbout a (e.1 ∷ values_of es)
    by true same none here rest = absurd (true≢false (ap is_some none))
    by false same none here rest = All-cons (λ p. subject p ≢ a) e.1 (values_of es) (λ h. eqb-false a e.0 same (sym h ∙ here)) (rest none)

-- all are below a limit that is no greater, so none goes
pub below-unspent : (before limit : ℕ) (ps : List Pending) → before ≤ limit → AllBelow before ps → below limit ps ≡ ps
below-unspent before limit [] le h = refl
below-unspent before limit (p ∷ ps) le h =
    ap (λ b. cond b (p ∷ below limit ps) (below limit ps)) (lt-ltb p.count limit (omega (arith, le, h 0 p (omega arith))))
    ∙ ap (λ qs. p ∷ qs) (below-unspent before limit ps le (All-tail (λ p. p.count < before) p ps h))
