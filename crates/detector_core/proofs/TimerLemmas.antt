-- Timers in a list that rises by address: what a write, an insertion and a removal at a place leave.
use Rattle.std.proofs.Common.{◌≡◌, ℕ, zero, suc, ◌+◌, ◌<◌, ◌≤◌, ◌≢◌, ◌==◌, Bool, true, false, not, nat_lt, cond, List, [], ◌∷◌, ◌++◌, length, map, filter, take, drop, set, insert, remove, get_or, refl, sym, ap, ◌∙◌, subst, All, Contains, arith, add-one, add-zero, append-nil, drop-cons, length-drop, length-take-le, ◌⊎◌, inl, inr, eq-eqb, ne_eqb, find, nat_le, Option, Some, None, IfSome, ◌↔◌}
use Rattle.std.proofs.lemmas.Bool.{ltb-true, ltb-false, lt-ltb, le-ltb, leb-true, leb-false, cases_lt}
use Rattle.std.specs.List.Sorted.{IsPartitionedBy, IsPartitionPoint}
use Rattle.std.proofs.lemmas.List.{get_or-drop, get_or-take, take-append-drop, set_split}
use Rattle.std.proofs.lemmas.List.Elements.{All-cons, All-tail, All-weaker, All-more, All-map, All-nil, Contains-get_or, Contains-append_right, All-contains, All-append, filter-append, filter_passes}
use Rattle.std.proofs.lemmas.List.Kept.{AllPairs-cons, AllPairs-filter}
use Rattle.detector_core.specs.declared.timers.Timer.{Timer}
use Rattle.std.specs.Option.{option_map}
use Rattle.detector_core.specs.Timers.{IsAscending, HasTimer, with_timer, without_timer, due_of, IsPlace, IsTimerAt, IsLeastDue, GivesLeastDue}

-- a filter by a test that all pass, or none
pub filter_all : {X : Type 0} (p : X → Bool) (xs : List X) → All (λ x. p x ≡ true) xs → filter p xs ≡ xs
filter_all p [] h = refl
filter_all {X} p (x ∷ xs) h =
    ap (λ b. cond b (x ∷ filter p xs) (filter p xs)) (h 0 x (omega arith)) ∙ ap (λ l. x ∷ l) (filter_all p xs (All-tail (λ x. p x ≡ true) x xs h))

pub filter_none : {X : Type 0} (p : X → Bool) (xs : List X) → All (λ x. p x ≡ false) xs → filter p xs ≡ []
filter_none p [] h = refl
filter_none p (x ∷ xs) h =
    ap (λ b. cond b (x ∷ filter p xs) (filter p xs)) (h 0 x (omega arith)) ∙ filter_none p xs (All-tail (λ x. p x ≡ false) x xs h)

-- the timers of lesser and of greater addresses
below_in : (a : ℕ) (prefix back : List Timer) → All (λ t. t.address < a) prefix → All (λ t. a ≤ t.address) back → filter (λ u. nat_lt u.address a) (prefix ++ back) ≡ prefix
below_in a prefix back f b =
    let test : Timer → Bool = λ u. nat_lt u.address a in
    filter-append test prefix back
    ∙ (λ j. filter_all test prefix (All-weaker (λ t. t.address < a) (λ t. test t ≡ true) (λ t h. lt-ltb t.address a h) prefix f) j
    ++ filter_none test back (All-weaker (λ t. a ≤ t.address) (λ t. test t ≡ false) (λ t h. le-ltb t.address a h) back b) j)
    ∙ append-nil prefix

above_in : (a : ℕ) (prefix back : List Timer) → All (λ t. t.address ≤ a) prefix → All (λ t. a < t.address) back → filter (λ u. nat_lt a u.address) (prefix ++ back) ≡ back
above_in a prefix back f b =
    let test : Timer → Bool = λ u. nat_lt a u.address in
    filter-append test prefix back
    ∙ (λ j. filter_none test prefix (All-weaker (λ t. t.address ≤ a) (λ t. test t ≡ false) (λ t h. le-ltb a t.address h) prefix f) j
    ++ filter_all test back (All-weaker (λ t. a < t.address) (λ t. test t ≡ true) (λ t h. lt-ltb a t.address h) back b) j)

-- a timer of another address stays
other_stays : (a : ℕ) (xs : List Timer) → All (λ t. t.address ≢ a) xs → filter (λ t. not (t.address == a)) xs ≡ xs
other_stays a xs h =
    filter_all (λ t. not (t.address == a)) xs (All-weaker (λ t. t.address ≢ a) (λ t. not (t.address == a) ≡ true) (λ t ne. ap not (ne_eqb t.address a ne)) xs h)

-- the timers after a place are of greater addresses
after_place : (ts : List Timer) (i a : ℕ) → IsAscending ts → IsTimerAt ts i a → All (λ t. a < t.address) (drop (i + 1) ts)
after_place ts i a rising at = λ k d h.
    let far : get_or (drop (i + 1) ts) k d ≡ get_or ts (i + 1 + k) d = get_or-drop (i + 1) ts k d in
    let within : i + 1 + k < length ts = omega (arith, h, length-drop (i + 1) ts) in
    let more : (get_or ts i d).address < (get_or ts (i + 1 + k) d).address = rising i (i + 1 + k) d (omega arith) within in
    let more' : a < (get_or ts (i + 1 + k) d).address = subst (λ b. b < (get_or ts (i + 1 + k) d).address) (at.here d) more in
    subst (λ t. a < t.address) (sym far) more'

-- and so are those from a place on where no timer of the address stands
from_place : (ts : List Timer) (i a : ℕ) → IsAscending ts → IsPlace ts a i → (i < length ts → (d : Timer) → (get_or ts i d).address ≢ a) → All (λ t. a < t.address) (drop i ts)
from_place ts i a rising place none = λ k d h.
    let within : i + k < length ts = omega (arith, h, length-drop i ts) in
    let here : a ≤ (get_or (drop i ts) 0 d).address = place.back 0 d (omega arith) in
    let here' : a ≤ (get_or ts i d).address = subst (λ j. a ≤ (get_or ts j d).address) (add-zero i) (subst (λ t. a ≤ t.address) (get_or-drop i ts 0 d) here) in
    let apart : (get_or ts i d).address ≢ a = none (omega arith) d in
    subst (λ t. a < t.address) (sym (get_or-drop i ts k d)) (by k d within (omega (arith, here', apart)))
  where
    by : (k : ℕ) (d : Timer) → i + k < length ts → a < (get_or ts i d).address → a < (get_or ts (i + k) d).address
    by zero d within first = subst (λ j. a < (get_or ts j d).address) (sym (add-zero i)) first
    by (suc j) d within first = omega (arith, first, rising i (i + suc j) d (omega arith) within)

lesser_is : (ts : List Timer) (a i : ℕ) → IsPlace ts a i → filter (λ u. nat_lt u.address a) ts ≡ take i ts
lesser_is ts a i place =
    ap (filter (λ u. nat_lt u.address a)) (sym (take-append-drop i ts)) ∙ below_in a (take i ts) (drop i ts) place.prefix place.back

up_to : (ts : List Timer) (a i : ℕ) (d : Timer) → IsPlace ts a i → IsTimerAt ts i a → All (λ t. t.address ≤ a) (take (i + 1) ts)
up_to ts a i d place at =
    All-more (λ t. t.address ≤ a) ts i d at.within (All-weaker (λ t. t.address < a) (λ t. t.address ≤ a) (λ t h. omega arith) (take i ts) place.prefix) (omega (arith, at.here d))

-- a timer written in the place of its address's
pub with_timer-at : (ts : List Timer) (i : ℕ) (t : Timer) → IsAscending ts → IsPlace ts t.address i → IsTimerAt ts i t.address → set ts i t ≡ with_timer ts t
with_timer-at ts i t rising place at =
    let greater : filter (λ u. nat_lt t.address u.address) ts ≡ drop (i + 1) ts =
    ap (filter (λ u. nat_lt t.address u.address)) (sym (take-append-drop (i + 1) ts))
    ∙ above_in t.address (take (i + 1) ts) (drop (i + 1) ts) (up_to ts t.address i t place at) (after_place ts i t.address rising at) in
    set_split ts i t at.within ∙ (λ j. sym (lesser_is ts t.address i place) j ++ t ∷ sym (greater ∙ ap (λ n. drop n ts) (add-one i)) j)

-- a timer inserted where its address has none
pub with_timer-between : (ts : List Timer) (i : ℕ) (t : Timer) → IsAscending ts → IsPlace ts t.address i → (i < length ts → (d : Timer) → (get_or ts i d).address ≢ t.address) → insert ts i t ≡ with_timer ts t
with_timer-between ts i t rising place none =
    let prefix : All (λ u. u.address ≤ t.address) (take i ts) = All-weaker (λ u. u.address < t.address) (λ u. u.address ≤ t.address) (λ u h. omega arith) (take i ts) place.prefix in
    let greater : filter (λ u. nat_lt t.address u.address) ts ≡ drop i ts =
    ap (filter (λ u. nat_lt t.address u.address)) (sym (take-append-drop i ts))
    ∙ above_in t.address (take i ts) (drop i ts) prefix (from_place ts i t.address rising place none) in
    λ j. sym (lesser_is ts t.address i place) j ++ t ∷ sym greater j

-- the timer of the address taken out
pub without_timer-at : (ts : List Timer) (i a : ℕ) (d : Timer) → IsAscending ts → IsPlace ts a i → IsTimerAt ts i a → remove ts i ≡ without_timer ts a
without_timer-at ts i a d rising place at =
    let test : Timer → Bool = λ t. not (t.address == a) in
    let x : Timer = get_or ts i d in
    let prefix : filter test (take i ts) ≡ take i ts = other_stays a (take i ts) (All-weaker (λ t. t.address < a) (λ t. t.address ≢ a) (λ t h. omega arith) (take i ts) place.prefix) in
    let back : filter test (drop (suc i) ts) ≡ drop (suc i) ts =
    other_stays a (drop (suc i) ts) (subst (λ n. All (λ t. t.address ≢ a) (drop n ts)) (add-one i) (All-weaker (λ t. a < t.address) (λ t. t.address ≢ a) (λ t h. omega arith) (drop (i + 1) ts) (after_place ts i a rising at))) in
    let here : test x ≡ false = ap not (eq-eqb x.address a (at.here d)) in
    let middle : filter test (drop i ts) ≡ filter test (drop (suc i) ts) =
    ap (filter test) (drop-cons ts i d at.within) ∙ ap (λ b. cond b (x ∷ filter test (drop (suc i) ts)) (filter test (drop (suc i) ts))) here in
    sym (ap (filter test) (sym (take-append-drop i ts)) ∙ filter-append test (take i ts) (drop i ts) ∙ (λ j. prefix j ++ (middle ∙ back) j))

-- where no timer of the address stands at its place, none runs
pub none_runs : (ts : List Timer) (i a : ℕ) → IsAscending ts → IsPlace ts a i → (i < length ts → (d : Timer) → (get_or ts i d).address ≢ a) → All (λ t. t.address ≢ a) ts
none_runs ts i a rising place none =
    let prefix = All-weaker (λ t. t.address < a) (λ t. t.address ≢ a) (λ t h. omega arith) (take i ts) place.prefix in
    let back = All-weaker (λ t. a < t.address) (λ t. t.address ≢ a) (λ t h. omega arith) (drop i ts) (from_place ts i a rising place none) in
    subst (All (λ t. t.address ≢ a)) (take-append-drop i ts) (All-append (λ t. t.address ≢ a) (take i ts) (drop i ts) prefix back)

pub HasTimer-none : (ts : List Timer) (a : ℕ) → All (λ t. t.address ≢ a) ts → HasTimer ts a → ⊥
HasTimer-none ts a none has = All-contains (λ b. b ≢ a) (map (λ t. t.address) ts) a (All-map (λ b. b ≢ a) (λ t. t.address) ts none) has refl

-- no timer of the address runs
pub without_timer-between : (ts : List Timer) (i a : ℕ) → IsAscending ts → IsPlace ts a i → (i < length ts → (d : Timer) → (get_or ts i d).address ≢ a) → ts ≡ without_timer ts a
without_timer-between ts i a rising place none =
    sym (other_stays a ts (none_runs ts i a rising place none))

-- and the timers still rise
rising_around : (prefix back : List Timer) (t : Timer) → IsAscending prefix → IsAscending back → All (λ u. u.address < t.address) prefix → All (λ u. t.address < u.address) back → IsAscending (prefix ++ t ∷ back)
rising_around [] back t rf rb f b = AllPairs-cons (λ t u. t.address < u.address) t back b rb
rising_around (x ∷ prefix) back t rf rb f b =
    let R : Timer → Timer → Type 0 = λ t u. t.address < u.address in
    let below : x.address < t.address = f 0 x (omega arith) in
    let after : All (R x) prefix = λ k d h. rf 0 (suc k) d (omega arith) (omega arith) in
    let beyond : All (R x) (t ∷ back) = All-cons (R x) t back below (All-weaker (λ u. t.address < u.address) (R x) (λ u h. omega arith) back b) in
    AllPairs-cons R x (prefix ++ t ∷ back) (All-append (R x) prefix (t ∷ back) after beyond)
    (rising_around prefix back t (λ i j d h w. rf (suc i) (suc j) d (omega arith) (omega arith)) rb (All-tail (λ u. u.address < t.address) x prefix f) b)

pub IsAscending-with_timer : (ts : List Timer) (t : Timer) → IsAscending ts → IsAscending (with_timer ts t)
IsAscending-with_timer ts t rising =
    let R : Timer → Timer → Type 0 = λ t u. t.address < u.address in
    let lesser : Timer → Bool = λ u. nat_lt u.address t.address in
    let greater : Timer → Bool = λ u. nat_lt t.address u.address in
    rising_around (filter lesser ts) (filter greater ts) t (AllPairs-filter R lesser ts rising) (AllPairs-filter R greater ts rising)
    (All-weaker (λ u. lesser u ≡ true) (λ u. u.address < t.address) (λ u h. ltb-true u.address t.address h) (filter lesser ts) (filter_passes lesser ts))
    (All-weaker (λ u. greater u ≡ true) (λ u. t.address < u.address) (λ u h. ltb-true t.address u.address h) (filter greater ts) (filter_passes greater ts))

pub IsAscending-without_timer : (ts : List Timer) (a : ℕ) → IsAscending ts → IsAscending (without_timer ts a)
IsAscending-without_timer ts a rising = AllPairs-filter (λ t u. t.address < u.address) (λ t. not (t.address == a)) ts rising

-- t has run out, and none of a lesser address has
abbrev Least : ℕ → Timer → List Timer → Type 0
Least now t ts = Contains ts t × (t.deadline ≤ now) × All (λ u. u.deadline ≤ now → t.address ≤ u.address) ts

least_found : (now : ℕ) (t : Timer) (ts : List Timer) → IsAscending ts → find (λ t. nat_le t.deadline now) ts ≡ Some t → Least now t ts
least_found now t [] rising found = cc
least_found now t (u ∷ us) rising found =
    by (nat_le u.deadline now) refl found (least_found now t us (λ i j d h w. rising (suc i) (suc j) d (omega arith) (omega arith)))
  where
    by : (b : Bool) → nat_le u.deadline now ≡ b → cond b (Some u) (find (λ t. nat_le t.deadline now) us) ≡ Some t → (find (λ t. nat_le t.deadline now) us ≡ Some t → Least now t us) → Least now t (u ∷ us)
    by true past found rest =
        let same : u ≡ t = cc in
        subst (λ t. Least now t (u ∷ us)) same (
          Contains-get_or (u ∷ us) 0 u (omega arith),
          leb-true u.deadline now past,
          All-cons (λ v. v.deadline ≤ now → u.address ≤ v.address) u us (λ h. omega arith) (λ k d h p. omega (arith, rising 0 (suc k) d (omega arith) (omega arith))),
        )
    by false past found rest =
        let more = rest found in (
          Contains-append_right (u ∷ []) us t more.0,
          more.1,
          All-cons (λ v. v.deadline ≤ now → t.address ≤ v.address) u us (λ h. absurd (omega (arith, h, leb-false u.deadline now past))) more.2,
        )

-- none has run out
All-find_none : (ts : List Timer) (now : ℕ) → find (λ t. nat_le t.deadline now) ts ≡ None → All (λ t. now < t.deadline) ts
All-find_none [] now h = All-nil (λ t. now < t.deadline)
All-find_none (u ∷ us) now h = by (nat_le u.deadline now) refl h (All-find_none us now)
  where
    by : (b : Bool) → nat_le u.deadline now ≡ b → cond b (Some u) (find (λ t. nat_le t.deadline now) us) ≡ None → (find (λ t. nat_le t.deadline now) us ≡ None → All (λ t. now < t.deadline) us) → All (λ t. now < t.deadline) (u ∷ us)
    by true past h rest = cc
    by false past h rest = All-cons (λ t. now < t.deadline) u us (leb-false u.deadline now past) (rest h)

find_none-All : (ts : List Timer) (now : ℕ) → All (λ t. now < t.deadline) ts → find (λ t. nat_le t.deadline now) ts ≡ None
find_none-All [] now h = refl
find_none-All (u ∷ us) now h = by (nat_le u.deadline now) refl (find_none-All us now (All-tail (λ t. now < t.deadline) u us h))
  where
    by : (b : Bool) → nat_le u.deadline now ≡ b → find (λ t. nat_le t.deadline now) us ≡ None → cond b (Some u) (find (λ t. nat_le t.deadline now) us) ≡ None
    by true past none = absurd (omega (arith, leb-true u.deadline now past, h 0 u (omega arith)))
    by false past none = none

-- what is due is due of the least address
pub gives_least_due : (ts : List Timer) (now : ℕ) → IsAscending ts → GivesLeastDue ts now
gives_least_due ts now rising = record { some = some (find (λ t. nat_le t.deadline now) ts) refl; none = none (find (λ t. nat_le t.deadline now) ts) refl }
  where
    some : (o : Option Timer) → find (λ t. nat_le t.deadline now) ts ≡ o → IfSome (option_map due_of o) (IsLeastDue ts now)
    some None found = tt
    some (Some t) found =
        let first = least_found now t ts rising found in
        record { timer = t; runs = first.0; same = refl; past = first.1; least = first.2 }

    none : (o : Option Timer) → find (λ t. nat_le t.deadline now) ts ≡ o → (option_map due_of o ≡ None) ↔ All (λ t. now < t.deadline) ts
    none None found = (λ h. All-find_none ts now found, λ h. refl)
    none (Some t) found = (λ h. cc, λ h. absurd (nothing (sym found ∙ find_none-All ts now h)))
      where
        nothing : Some t ≡ None → ⊥
        nothing h = cc

-- the timers of lesser addresses come first
pub IsPartitionedBy-rising : (ts : List Timer) (a : ℕ) → IsAscending ts → IsPartitionedBy (λ t. nat_lt t.address a) ts
IsPartitionedBy-rising ts a rising i j d le within passes =
    by (cases_lt i j)
  where
    below : (get_or ts j d).address < a
    below = ltb-true _ a passes

    by : (i < j) ⊎ (j ≤ i) → nat_lt (get_or ts i d).address a ≡ true
    by (inl lt) = lt-ltb _ a (omega (arith, rising i j d lt within, below))
    by (inr ge) = (let same : i ≡ j = omega arith in subst (λ k. nat_lt (get_or ts k d).address a ≡ true) (sym same) passes)

pub IsPlace-from_point : (ts : List Timer) (a i : ℕ) → i ≤ length ts → IsPartitionPoint (λ t. nat_lt t.address a ≡ true) (λ t. nat_lt t.address a ≡ false) ts i → IsPlace ts a i
IsPlace-from_point ts a i within point = record {
  within = within;
  prefix = λ k d h. (let low : k < i = omega (arith, length-take-le i ts within) in subst (λ t. t.address < a) (sym (get_or-take i ts k d low)) (ltb-true _ a (point.0 k d (omega arith) low)));
  back = λ k d h. subst (λ t. a ≤ t.address) (sym (get_or-drop i ts k d)) (ltb-false _ a (point.1 (i + k) d (omega arith) (omega (arith, h, length-drop i ts))));
}
