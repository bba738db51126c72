-- Helpers of a lost probe (SWIM, section 3.1): what each said, and what becomes of the probe.
use Rattle.std.specs.Prelude.{ℕ, ◌==◌, ◌&&◌, ◌≡◌, ◌≢◌, ◌↔◌, ◌⊎◌, not, length, All, Contains, filter, min, Bool, true, false, List, map, is_none, Option, Some, None, if◌then◌else◌}
use Rattle.std.specs.List.{list_any, reduce}
use Rattle.detector_core.specs.declared.asked.AskedHelper.{AskedHelper}
use Rattle.detector_core.specs.declared.asked.Said.{Said}
use Rattle.detector_core.specs.declared.asked.Said.TheVariants as said
use Rattle.detector_core.specs.declared.asked.Outcome.{Outcome}
use Rattle.detector_core.specs.declared.asked.Outcome.TheVariants as outcomes
use Rattle.detector_core.specs.Order.{AllDifferent}

-- one that was asked, with what this helper said
abbrev pub noted : ℕ → Said → AskedHelper → AskedHelper
noted helper s q = if q.helper == helper then record { helper = helper; said = Some s } else q

-- a helper was asked and has not answered
abbrev pub waits : List AskedHelper → ℕ → Bool
waits asked helper = list_any (λ q. (q.helper == helper) && is_none q.said) asked

-- the report, if any, is that the target was not reached
abbrev pub is_not_reached : Option Said → Bool
is_not_reached None = false
is_not_reached (Some said.Reached) = false
is_not_reached (Some said.NotReached) = true
is_not_reached (Some said.Failed) = false

-- it said that it did not reach the target
abbrev pub missed : AskedHelper → Bool
missed q = is_not_reached q.said

-- one that has not answered is waited for; else the target is suspect if one did not reach it
abbrev pub verdict : List AskedHelper → Outcome
verdict asked =
    if list_any (λ q. is_none q.said) asked then outcomes.Waiting
    else (if list_any missed asked then outcomes.Suspect else outcomes.Inconclusive)

-- the report is that the target was reached
abbrev pub is_reached : Said → Bool
is_reached said.Reached = true
is_reached said.NotReached = false
is_reached said.Failed = false

-- a helper that reached the target ends the probe, whatever the others report
abbrev pub outcome_after : List AskedHelper → ℕ → Said → Outcome
outcome_after asked helper s = if is_reached s then outcomes.Reached else verdict (map (noted helper s) asked)

-- the helpers that have not answered
abbrev pub waiting_helpers : List AskedHelper → List ℕ
waiting_helpers asked = map (λ q. q.helper) (filter (λ q. is_none q.said) asked)

-- the least of them, if there is one
abbrev pub first_waiting : List AskedHelper → Option ℕ
first_waiting asked = reduce min (waiting_helpers asked)

-- the pingable members other than the target
abbrev pub others : List ℕ → ℕ → List ℕ
others pingable target = filter (λ a. not (a == target)) pingable

-- as many different members of the list
pub record IsSample (members : List ℕ) (count : ℕ) (chosen : List ℕ) : Type 0 where
  pub as_many : length chosen ≡ count
  pub within : All (Contains members) chosen
  pub different : AllDifferent chosen

-- helpers who have not answered
abbrev pub unanswered : List ℕ → List AskedHelper
unanswered helpers = map (λ h. record { helper = h; said = None }) helpers

-- a helper other than this one was asked and has not answered
pub record AnotherIsSilent (asked : List AskedHelper) (helper : ℕ) : Type 0 where
  pub other : AskedHelper
  pub listed : Contains asked other
  pub another : other.helper ≢ helper
  pub silent : other.said ≡ None

-- a helper other than this one said that it did not reach the target
pub record AnotherMissed (asked : List AskedHelper) (helper : ℕ) : Type 0 where
  pub other : AskedHelper
  pub listed : Contains asked other
  pub another : other.helper ≢ helper
  pub missed : other.said ≡ Some said.NotReached

-- a helper that reached the target decides alone; without that the probe waits for those that have not reported; and once all have, the
-- target is suspect if and only if one of them did not reach it
pub record IsVerdict (asked : List AskedHelper) (helper : ℕ) (s : Said) (outcome : Outcome) : Type 0 where
  pub reached : (outcome ≡ outcomes.Reached) ↔ (s ≡ said.Reached)
  pub waiting : (outcome ≡ outcomes.Waiting) ↔ ((s ≢ said.Reached) × AnotherIsSilent asked helper)
  pub suspect : (outcome ≡ outcomes.Suspect) ↔ ((s ≢ said.Reached) × (¬ AnotherIsSilent asked helper) × ((s ≡ said.NotReached) ⊎ AnotherMissed asked helper))
  pub inconclusive : (outcome ≡ outcomes.Inconclusive) ↔ ((s ≢ said.Reached) × (¬ AnotherIsSilent asked helper) × (s ≢ said.NotReached) × (¬ AnotherMissed asked helper))

-- the outcome of a probe by the report of a helper that is waited for
abbrev pub DecidesByWords : Type 0
DecidesByWords =
    (asked : List AskedHelper) (helper : ℕ) (s : Said) → waits asked helper ≡ true → IsVerdict asked helper s (outcome_after asked helper s)
