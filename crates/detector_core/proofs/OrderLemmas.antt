-- Picks from a random order: the first that may be pinged, and how near the others come.
use Rattle.std.proofs.Common.{◌≡◌, ℕ, zero, suc, ◌+◌, ◌-◌, ◌<◌, ◌≤◌, ◌⊎◌, ◌≢◌, inl, inr, Bool, true, false, not, ◌||◌, nat_lt, nat_eq, nat_cmp, cond, if◌then◌else◌, List, [], ◌∷◌, ◌++◌, length, filter, take, drop, get_or, position, Option, Some, None, Result, Ok, Err, is_ok, IsSome, IfNone, IfSome, length-drop, MatchResult, refl, sym, ap, ◌∙◌, subst, Contains, IsPermutation, arith, add-one, drop-cons, eq-eqb, eqb-true, ne_eqb, true≢false, length-take-le, add-zero, ⊎_elim}
use Rattle.std.proofs.lemmas.Bool.{ltb-true, ltb-false, cases_lt}
use Rattle.std.proofs.lemmas.List.{take_all, get_or-take, take-append-drop}
use Rattle.std.proofs.lemmas.List.Elements.{filter-append, Contains-get_or, Contains-append_left, Contains-append_right, Contains-append_cases, at_from_Contains}
use Rattle.std.proofs.lemmas.List.Folds.{Any-from_list_any, list_any-from_Any}
use Rattle.std.proofs.lemmas.List.Kept.{AllPairs-from_increasing}
use Rattle.std.proofs.lemmas.List.Sorted.{searched, length_permutation, Contains-permutation, IsPermutation-sym}
use Rattle.std.proofs.lemmas.List.Sums.{prefix_len_passes, prefix_len_stops}
use Rattle.std.specs.List.{list_any, position_or_len}
use Rattle.std.specs.List.Sorted.{IsStrictlyIncreasing, IsBinarySearchResult}
use Rattle.rand_core.specs.Stream.{Stream}
use Rattle.detector_core.specs.Choices.{new_order}
use Rattle.detector_core.specs.Order.{is_in, near, bound, next_in, next_or_new, drawn_turn, IsNextIn, IsNewOrder, IsTurn, AllNearer}
use Rattle.detector_core.proofs.TimerLemmas.{filter_all, filter_none}

-- the test of membership is membership
pub is_in-yes : (xs : List ℕ) (a : ℕ) → Contains xs a → is_in xs a ≡ true
is_in-yes xs a has = list_any-from_Any (nat_eq a) xs (has.0, a, has.1, has.2, eq-eqb a a refl)

pub Contains-is_in : (xs : List ℕ) (a : ℕ) → is_in xs a ≡ true → Contains xs a
Contains-is_in xs a h =
    let some = Any-from_list_any (nat_eq a) xs h in
    let same : a ≡ some.1 = eqb-true a some.1 some.4 in
    subst (Contains xs) (sym same) (some.0, some.2, some.3)

not_true : (b : Bool) → (b ≡ true → ⊥) → b ≡ false
not_true true h = absurd (h refl)
not_true false h = refl

pub not_is : (b : Bool) → not b ≡ true → b ≡ false
not_is true h = sym h
not_is false h = refl

not_not : (b : Bool) → not b ≡ false → b ≡ true
not_not true h = refl
not_not false h = sym h

-- what a binary search finds
pub is_in-searched : (xs : List ℕ) (a : ℕ) (r : Result ℕ ℕ) → IsStrictlyIncreasing xs → IsBinarySearchResult (λ y. nat_cmp y a) xs r → is_ok r ≡ is_in xs a
is_in-searched xs a r rising search_is = by r (searched xs a r search_is not_falling)
  where
    not_falling : (i j : ℕ) → i ≤ j → j < length xs → get_or xs i 0 ≤ get_or xs j 0
    not_falling i j le within = by_order (cases_lt i j)
      where
        by_order : (i < j) ⊎ (j ≤ i) → get_or xs i 0 ≤ get_or xs j 0
        by_order (inl lt) = omega (arith, AllPairs-from_increasing xs rising i j 0 lt within)
        by_order (inr ge) = (let same : i ≡ j = omega arith in subst (λ k. get_or xs i 0 ≤ get_or xs k 0) same (omega arith))

    by : (r : Result ℕ ℕ) → MatchResult r (λ i. (i < length xs) × (get_or xs i 0 ≡ a)) (λ i. (i ≤ length xs) × ((k : ℕ) → k < i → get_or xs k 0 < a) × ((k : ℕ) → i ≤ k → k < length xs → a < get_or xs k 0)) → is_ok r ≡ is_in xs a
    by (Ok i) found = sym (is_in-yes xs a (subst (Contains xs) found.1 (Contains-get_or xs i 0 found.0)))
    by (Err i) none = sym (not_true (is_in xs a) (λ h. nowhere (Contains-is_in xs a h)))
      where
        nowhere : Contains xs a → ⊥
        nowhere has =
            let at = at_from_Contains xs a has in
            let here : get_or xs at.0 0 ≡ a = at.2 0 in
            ⊎_elim (λ lt. absurd (omega (arith, none.1 at.0 lt, here))) (λ ge. absurd (omega (arith, none.2 at.0 ge at.1, here))) (cases_lt at.0 i)

-- the first that passes a test, by `position`
pub first_at : {X : Type 0} (p : X → Bool) (xs : List X) (i : ℕ) → position p xs ≡ Some i → (position_or_len p xs ≡ i) × (i < length xs)
first_at p xs i h = by (nat_lt (position_or_len p xs) (length xs)) refl h
  where
    by : (b : Bool) → nat_lt (position_or_len p xs) (length xs) ≡ b → cond b (Some (position_or_len p xs)) None ≡ Some i → (position_or_len p xs ≡ i) × (i < length xs)
    by true lt is = (let same : position_or_len p xs ≡ i = cc in (same, subst (λ k. k < length xs) same (ltb-true _ _ lt)))
    by false lt is = cc

pub first_none : {X : Type 0} (p : X → Bool) (xs : List X) → position p xs ≡ None → filter p xs ≡ []
first_none p xs h = filter_none p xs (λ k d within. not_passes k d within)
  where
    at_end : (b : Bool) → nat_lt (position_or_len p xs) (length xs) ≡ b → cond b (Some (position_or_len p xs)) None ≡ None → length xs ≤ position_or_len p xs
    at_end true lt is = cc
    at_end false lt is = ltb-false _ _ lt

    not_passes : (k : ℕ) (d : _) → k < length xs → p (get_or xs k d) ≡ false
    not_passes k d within =
        let over : length xs ≤ position_or_len p xs = at_end (nat_lt (position_or_len p xs) (length xs)) refl h in
        not_is (p (get_or xs k d)) (prefix_len_passes (λ x. not (p x)) xs k d (omega (arith, over, within)))

-- before the first none passes, and it passes
pub first_before : {X : Type 0} (p : X → Bool) (xs : List X) (i : ℕ) → position p xs ≡ Some i → filter p (take i xs) ≡ []
first_before p xs i h =
    let at = first_at p xs i h in
    filter_none p (take i xs) (λ k d w.
    let low : k < i = omega (arith, w, length-take-le i xs (omega (arith, at.1))) in
    subst (λ x. p x ≡ false) (sym (get_or-take i xs k d low)) (not_is (p (get_or xs k d)) (prefix_len_passes (λ x. not (p x)) xs k d (omega (arith, low, at.0)))))

pub first_passes : {X : Type 0} (p : X → Bool) (xs : List X) (i : ℕ) (d : X) → position p xs ≡ Some i → p (get_or xs i d) ≡ true
first_passes p xs i d h =
    let at = first_at p xs i h in
    let stops = prefix_len_stops (λ x. not (p x)) xs d (omega (arith, at.0, at.1)) in
    not_not (p (get_or xs i d)) (subst (λ k. not (p (get_or xs k d)) ≡ false) at.0 stops)

-- the rest, by its first that may be pinged
pub IsNextIn-first : (pingable rest : List ℕ) (i : ℕ) (d : ℕ) → position (is_in pingable) rest ≡ Some i → IsNextIn pingable rest (get_or rest i d) (drop (i + 1) rest)
IsNextIn-first pingable rest i d h =
    let at = first_at (is_in pingable) rest i h in
    record {
      passed = take i rest;
      split = sym (take-append-drop i rest) ∙ ap (λ l. take i rest ++ l) (drop-cons rest i d at.1 ∙ ap (λ n. get_or rest i d ∷ drop n rest) (sym (add-one i)));
      none_passed = first_before (is_in pingable) rest i h;
      picked = Contains-is_in pingable (get_or rest i d) (first_passes (is_in pingable) rest i d h);
    }

-- all of a part of a new order may be pinged
near_part : (pingable whole part : List ℕ) → IsPermutation pingable whole → ((a : ℕ) → Contains part a → Contains whole a) → near pingable part ≡ part
near_part pingable whole part reordered within =
    filter_all (is_in pingable) part
    (λ k d h. let a = get_or part k d in is_in-yes pingable a (Contains-permutation whole pingable a (IsPermutation-sym pingable whole reordered) (within a (Contains-get_or part k d h))))

-- and all of a new order
pub near_all : (pingable rest : List ℕ) → IsPermutation pingable rest → near pingable rest ≡ rest
near_all pingable rest reordered = near_part pingable rest rest reordered (λ a has. has)

-- a new order of some members has one that may be pinged
pub near_some : (pingable rest : List ℕ) → IsPermutation pingable rest → 0 < length pingable → near pingable rest ≡ [] → ⊥
near_some pingable rest reordered some none =
    let empty : rest ≡ [] = sym (near_all pingable rest reordered) ∙ none in
    absurd (omega (arith, length_permutation pingable rest reordered, ap length empty))

-- the first of a new order begins it
pub IsNewOrder-first : (pingable rest fresh left : List ℕ) (target : ℕ) → near pingable rest ≡ [] → IsPermutation pingable fresh → IsNextIn pingable fresh target left → IsNewOrder pingable rest target left
IsNewOrder-first pingable rest fresh left target used_up reordered next =
    let passed_in : near pingable next.passed ≡ next.passed =
    near_part pingable fresh next.passed reordered (λ a has. subst (λ l. Contains l a) (sym next.split) (Contains-append_left next.passed (target ∷ left) a has)) in
    let whole : fresh ≡ target ∷ left = next.split ∙ ap (λ l. l ++ target ∷ left) (sym passed_in ∙ next.none_passed) in
    record { used_up = used_up; reordered = subst (IsPermutation pingable) whole reordered }

-- the bound as one sum, which falls by computation when the first is taken off
abbrev pub bound_sum : List ℕ → List ℕ → ℕ → ℕ
bound_sum pingable rest a =
    let among = near pingable rest in
    position_or_len (nat_eq a) among + (if is_in among a then 0 else length pingable - 1)

position_or_len-absent : (xs : List ℕ) (a : ℕ) → is_in xs a ≡ false → position_or_len (nat_eq a) xs ≡ length xs
position_or_len-absent [] a h = refl
position_or_len-absent (x ∷ xs) a h = by (nat_eq a x) refl h (position_or_len-absent xs a)
  where
    by : (b : Bool) → nat_eq a x ≡ b → (b || is_in xs a) ≡ false → (is_in xs a ≡ false → position_or_len (nat_eq a) xs ≡ length xs)
        → cond (not b) (1 + position_or_len (nat_eq a) xs) 0 ≡ suc (length xs)
    by true e h rest = absurd (true≢false h)
    by false e h rest = omega (arith, rest h)

pub bound-sum : (pingable rest : List ℕ) (a : ℕ) → bound pingable rest a ≡ bound_sum pingable rest a
bound-sum pingable rest a = by (is_in (near pingable rest) a) refl
  where
    by : (b : Bool) → is_in (near pingable rest) a ≡ b
        → cond b (position_or_len (nat_eq a) (near pingable rest)) (length (near pingable rest) + (length pingable - 1))
        ≡ position_or_len (nat_eq a) (near pingable rest) + cond b 0 (length pingable - 1)
    by true e = sym (add-zero _)
    by false e = ap (λ n. n + (length pingable - 1)) (sym (position_or_len-absent (near pingable rest) a e))

abbrev AllNearerBySum : List ℕ → List ℕ → ℕ → List ℕ → Type 0
AllNearerBySum pingable rest target left = (a : ℕ) → Contains pingable a → a ≢ target → bound_sum pingable left a < bound_sum pingable rest a

-- a pick from the rest brings each other member one nearer
nearer_next : (pingable rest left : List ℕ) (target : ℕ) → IsNextIn pingable rest target left → AllNearerBySum pingable rest target left
nearer_next pingable rest left target next = λ a has apart.
    let among = near pingable left in
    let test = is_in pingable in
    let split : near pingable rest ≡ target ∷ among =
    ap (filter test) next.split ∙ filter-append test next.passed (target ∷ left)
    ∙ (λ j. next.none_passed j ++ cond (is_in-yes pingable target next.picked j) (target ∷ among) among) in
    let other : nat_eq a target ≡ false = ne_eqb a target apart in
    let old : bound_sum pingable rest a ≡ 1 + position_or_len (nat_eq a) among + (if is_in among a then 0 else length pingable - 1) =
    (λ j. position_or_len (nat_eq a) (split j) + (if is_in (split j) a then 0 else length pingable - 1))
    ∙ (λ j. cond (not (other j)) (1 + position_or_len (nat_eq a) among) 0 + (if other j || is_in among a then 0 else length pingable - 1)) in
    omega (arith, old)

-- a place of what passes lies within
pub place_within : {X : Type 0} (p : X → Bool) (xs : List X) → list_any p xs ≡ true → position_or_len p xs < length xs
place_within p [] h = absurd (true≢false (sym h))
place_within p (x ∷ xs) h = by (p x) refl h (place_within p xs)
  where
    by : (b : Bool) → p x ≡ b → (b || list_any p xs) ≡ true → (list_any p xs ≡ true → position_or_len p xs < length xs) → cond (not b) (1 + position_or_len p xs) 0 < suc (length xs)
    by true e h rest = omega arith
    by false e h rest = omega (arith, rest h)

pub only_member : (t a : ℕ) → Contains (t ∷ []) a → t ≡ a
only_member t a has = by has.0 has.1 has.2
  where
    by : (k : ℕ) → k < 1 → get_or (t ∷ []) k a ≡ a → t ≡ a
    by zero h e = e
    by (suc k) h e = absurd (omega arith)

-- in a new order each other member is nearer than a whole order
nearer_new : (pingable rest left : List ℕ) (target : ℕ) → IsNewOrder pingable rest target left → AllNearerBySum pingable rest target left
nearer_new pingable rest left target new = λ a has apart.
    let whole = target ∷ left in
    let all : near pingable left ≡ left = near_part pingable whole left new.reordered (λ b h. Contains-append_right (target ∷ []) left b h) in
    let in_left : Contains left a =
    ⊎_elim (λ h. absurd (apart (sym (only_member target a h)))) (λ h. h) (Contains-append_cases (target ∷ []) left a (Contains-permutation pingable whole a new.reordered has)) in
    let there : is_in left a ≡ true = is_in-yes left a in_left in
    let count : suc (length left) ≡ length pingable = length_permutation pingable whole new.reordered in
    let now : bound_sum pingable left a ≡ position_or_len (nat_eq a) left =
    (λ j. position_or_len (nat_eq a) (all j) + (if is_in (all j) a then 0 else length pingable - 1))
    ∙ (λ j. position_or_len (nat_eq a) left + (if there j then 0 else length pingable - 1)) ∙ add-zero _ in
    let before : bound_sum pingable rest a ≡ 0 + (length pingable - 1) =
    λ j. position_or_len (nat_eq a) (new.used_up j) + (if is_in (new.used_up j) a then 0 else length pingable - 1) in
    omega (arith, now, before, count, place_within (nat_eq a) left there)

nearer_by_sum : (pingable rest left : List ℕ) (target : ℕ) → IsTurn pingable rest target left → AllNearerBySum pingable rest target left
nearer_by_sum pingable rest left target (inl next) = nearer_next pingable rest left target next
nearer_by_sum pingable rest left target (inr new) = nearer_new pingable rest left target new

pub nearer : (pingable rest left : List ℕ) (target : ℕ) → IsTurn pingable rest target left → AllNearer pingable rest target left
nearer pingable rest left target turn = λ a has apart.
    omega (arith, nearer_by_sum pingable rest left target turn a has apart, bound-sum pingable left a, bound-sum pingable rest a)

-- what is first of the rest is drawn
pub next_in-next : (pingable rest left : List ℕ) (target : ℕ) → IsNextIn pingable rest target left → next_in pingable rest ≡ Some (target, left)
next_in-next pingable rest left target next = ap (next_in pingable) next.split ∙ after_prefix next.passed next.none_passed
  where
    after_prefix : (passed : List ℕ) → near pingable passed ≡ [] → next_in pingable (passed ++ target ∷ left) ≡ Some (target, left)
    after_prefix [] none = ap (λ b. cond b (Some (target, left)) (next_in pingable left)) (is_in-yes pingable target next.picked)
    after_prefix (x ∷ xs) none = by (is_in pingable x) refl none (after_prefix xs)
      where
        by : (b : Bool) → is_in pingable x ≡ b → cond b (x ∷ near pingable xs) (near pingable xs) ≡ []
            → (near pingable xs ≡ [] → next_in pingable (xs ++ target ∷ left) ≡ Some (target, left))
            → cond b (Some (x, xs ++ target ∷ left)) (next_in pingable (xs ++ target ∷ left)) ≡ Some (target, left)
        by true e none more = absurd (omega (arith, ap length none))
        by false e none more = more none

pub next_in-none : (pingable rest : List ℕ) → near pingable rest ≡ [] → next_in pingable rest ≡ None
next_in-none pingable [] none = refl
next_in-none pingable (x ∷ xs) none = by (is_in pingable x) refl none (next_in-none pingable xs)
  where
    by : (b : Bool) → is_in pingable x ≡ b → cond b (x ∷ near pingable xs) (near pingable xs) ≡ []
        → (near pingable xs ≡ [] → next_in pingable xs ≡ None) → cond b (Some (x, xs)) (next_in pingable xs) ≡ None
    by true e none more = absurd (omega (arith, ap length none))
    by false e none more = more none

pub drawn_turn-next : (pingable rest left : List ℕ) (target : ℕ) (choices : Stream) → IsNextIn pingable rest target left → drawn_turn pingable rest choices ≡ (Some (target, left), choices)
drawn_turn-next pingable rest left target choices next = ap (next_or_new pingable choices) (next_in-next pingable rest left target next)

pub drawn_turn-new : (pingable rest fresh left : List ℕ) (target : ℕ) (choices later : Stream) → near pingable rest ≡ [] → (fresh, later) ≡ new_order pingable choices
    → IsNextIn pingable fresh target left → drawn_turn pingable rest choices ≡ (Some (target, left), later)
drawn_turn-new pingable rest fresh left target choices later used_up drawn next =
    ap (next_or_new pingable choices) (next_in-none pingable rest used_up)
    ∙ (λ j. (next_in pingable (sym drawn j).0, (sym drawn j).1))
    ∙ ap (λ o. (o, later)) (next_in-next pingable fresh left target next)

-- the range from n on
pub range_from : {X : Type 0} (n : ℕ) (xs ys : List X) → xs ≡ ys → take (length xs - n) (drop n xs) ≡ drop n ys
range_from n xs ys same = take_all (length xs - n) (drop n xs) (omega (arith, length-drop n xs)) ∙ ap (drop n) same

-- a pick from a new order
pub some_begins : (pingable fresh : List ℕ) (r : Option ℕ) → IsPermutation pingable fresh → 0 < length pingable → IfNone r (near pingable fresh ≡ []) → IsSome r
some_begins pingable fresh None reordered some none = absurd (near_some pingable fresh reordered some none)
some_begins pingable fresh (Some t) reordered some none = refl

pub IsNextIn-result : (pingable rest left : List ℕ) (r : Option ℕ) (target : ℕ) → r ≡ Some target → IfSome r (λ t. IsNextIn pingable rest t left) → IsNextIn pingable rest target left
IsNextIn-result pingable rest left r target is next = subst (λ o. IfSome o (λ t. IsNextIn pingable rest t left)) is next

-- the target of a turn may be pinged
pub Contains-turn : (pingable rest left : List ℕ) (target : ℕ) → IsTurn pingable rest target left → Contains pingable target
Contains-turn pingable rest left target (inl next) = next.picked
Contains-turn pingable rest left target (inr new) =
    Contains-permutation (target ∷ left) pingable target (IsPermutation-sym pingable (target ∷ left) new.reordered) (Contains-get_or (target ∷ left) 0 target (omega arith))
