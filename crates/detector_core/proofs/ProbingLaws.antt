-- What callers cite of the order of probes: in 2n-1 picks from n members that stay each member is picked.
use Rattle.std.proofs.Common.{◌≡◌, ℕ, ◌+◌, ◌-◌, ◌*◌, ◌<◌, ◌≤◌, ◌≢◌, ⊎_elim, Bool, true, false, not, nat_eq, if◌then◌else◌, List, [], ◌∷◌, length, refl, sym, ◌∙◌, subst, Contains, All, arith, true≢false}
use Rattle.std.proofs.lemmas.Bool.{cases_eq}
use Rattle.std.proofs.lemmas.Bool.Decides.{Decides-eqb}
use Rattle.std.proofs.lemmas.List.Elements.{Contains-get_or, Contains-append_right, Contains-append_cases, All-contains, filter_passes}
use Rattle.std.proofs.lemmas.List.Kept.{AllPairs-cons, AllPairs-filter}
use Rattle.std.proofs.lemmas.List.Sums.{prefix_len-le-length}
use Rattle.std.proofs.lemmas.Map.Made.{IsDistinct-from_AllPairs, length-le_from_is_member}
use Rattle.std.specs.Cmp.{nat_eq_equiv}
use Rattle.std.specs.List.{position_or_len}
use Rattle.detector_core.specs.Order.{AllDifferent, is_in, near, bound}
use Rattle.detector_core.specs.Picks.{Picked, ArePicks, targets_of, HoldsEach, BoundIsLow}
use Rattle.detector_core.proofs.OrderLemmas.{bound_sum, bound-sum, is_in-yes, Contains-is_in, place_within, only_member}

-- a member is picked before its bound is used up
pub picked_within : (pingable rest : List ℕ) (picks : List Picked) (a : ℕ) → ArePicks pingable rest picks → Contains pingable a → bound pingable rest a < length picks → Contains (targets_of picks) a
picked_within pingable rest [] a are has short = absurd (omega arith)
picked_within pingable rest (p ∷ picks) a are has short =
    let target = p.probe.target in
    let left = p.after.rest in
    let more = picked_within pingable left picks a are.2 has in
    let closer : a ≢ target → bound pingable left a < bound pingable rest a = λ apart. subst (λ r. bound pingable left a < bound pingable r a) are.0 (are.1.nearer a has apart) in
    ⊎_elim
    (λ same. subst (Contains (targets_of (p ∷ picks))) (sym same) (Contains-get_or (targets_of (p ∷ picks)) 0 target (omega arith)))
    (λ apart. Contains-append_right (target ∷ []) (targets_of picks) a (more (omega (arith, short, closer apart))))
    (cases_eq a target)

-- different members of a list are no more than it has
no_more : (xs ys : List ℕ) → AllDifferent xs → ((a : ℕ) → Contains xs a → Contains ys a) → length xs ≤ length ys
no_more xs ys differ within =
    length-le_from_is_member {eq = nat_eq} nat_eq_equiv xs ys (IsDistinct-from_AllPairs Decides-eqb xs differ) (λ a h. is_in-yes ys a (within a (Contains-is_in xs a h)))

near_within : (pingable rest : List ℕ) (a : ℕ) → Contains (near pingable rest) a → Contains pingable a
near_within pingable rest a has = Contains-is_in pingable a (All-contains (λ b. is_in pingable b ≡ true) (near pingable rest) a (filter_passes (is_in pingable) rest) has)

near_differ : (pingable rest : List ℕ) → AllDifferent rest → AllDifferent (near pingable rest)
near_differ pingable rest differ = AllPairs-filter (λ a b. a ≢ b) (is_in pingable) rest differ

bound_within : (pingable rest : List ℕ) (a : ℕ) → AllDifferent rest → Contains pingable a → bound_sum pingable rest a + 2 ≤ 2 * length pingable
bound_within pingable rest a differ has = by (is_in (near pingable rest) a) refl
  where
    by : (b : Bool) → is_in (near pingable rest) a ≡ b → bound_sum pingable rest a + 2 ≤ 2 * length pingable
    by true there =
        let among = near pingable rest in
        let place = place_within (nat_eq a) among there in
        let few : length among ≤ length pingable = no_more among pingable (near_differ pingable rest differ) (λ b h. near_within pingable rest b h) in
        let is : bound_sum pingable rest a ≡ position_or_len (nat_eq a) among + 0 = λ j. position_or_len (nat_eq a) among + (if there j then 0 else length pingable - 1) in
        omega (arith, is, place, few)
    by false absent =
        let among = near pingable rest in
        let apart : All (λ b. a ≢ b) among = λ k d w e. true≢false (sym (is_in-yes among a (subst (Contains among) (sym e) (Contains-get_or among k d w))) ∙ absent) in
        let few : length (a ∷ among) ≤ length pingable =
        no_more (a ∷ among) pingable (AllPairs-cons (λ x y. x ≢ y) a among apart (near_differ pingable rest differ))
        (λ b h. ⊎_elim (λ one. subst (Contains pingable) (only_member a b one) has) (λ h. near_within pingable rest b h) (Contains-append_cases (a ∷ []) among b h)) in
        let place : position_or_len (nat_eq a) among ≤ length among = prefix_len-le-length (λ x. not (nat_eq a x)) among in
        let is : bound_sum pingable rest a ≡ position_or_len (nat_eq a) among + (length pingable - 1) = λ j. position_or_len (nat_eq a) among + (if absent j then 0 else length pingable - 1) in
        omega (arith, is, place, few)

-- with n members a bound is at most 2n - 2
pub bound_at_most : BoundIsLow
bound_at_most pingable rest a differ has = omega (arith, bound_within pingable rest a differ has, bound-sum pingable rest a)

-- any 2n - 1 picks from n members hold each of them
pub all_picked : HoldsEach
all_picked pingable rest picks differ are many a has =
    picked_within pingable rest picks a are has (omega (arith, many, bound_within pingable rest a differ has, bound-sum pingable rest a))
