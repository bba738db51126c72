-- The prober: the last number used, the rest of the order, and the running probe.
use Rattle.std.specs.Prelude.{◌≡◌, ◌≤◌, ℕ, ◌==◌, ◌&&◌, List, [], length, map, min, Option, Some, None, Result, Ok, Err, if◌then◌else◌}
use Rattle.std.specs.Option.{option_and_then, option_map_or}
use Rattle.rand_core.specs.Stream.{Stream}
use Rattle.rand_pcg.specs.Lcg.{Lcg}
use Rattle.change_core.specs.Numbers.{greatest_number}
use Rattle.detector_core.specs.declared.asked.AskedHelper.{AskedHelper}
use Rattle.detector_core.specs.declared.asked.Said.{Said}
use Rattle.detector_core.specs.declared.asked.Outcome.{Outcome}
use Rattle.detector_core.specs.declared.asked.Outcome.TheVariants as outcomes
use Rattle.detector_core.specs.declared.errors.DetectorError.{DetectorError}
use Rattle.detector_core.specs.declared.errors.DetectorError.TheVariants as refusals
use Rattle.detector_core.specs.Choices.{choices_of}
use Rattle.detector_core.specs.Helpers.{first_waiting, noted, waits, outcome_after, others}
use Rattle.detector_core.specs.Order.{AllDifferent}

-- the target of the running probe, and the helpers asked with what each said
pub record OpenedProbe : Type 0 where
  pub target : ℕ
  pub asked : List AskedHelper

-- the model of a `Prober`: the last number used, which is the running probe's, how many helpers are asked, the rest of the order, the
-- generator of random choices, and the running probe
pub record ProbeState : Type 0 where
  pub last : ℕ
  pub helpers : ℕ
  pub rest : List ℕ
  pub generator : Lcg
  pub running : Option OpenedProbe

-- the invariant of a prober: its last number is at most the greatest, no member appears twice in the rest of the order, and a probe that
-- waits for no helper has asked none, so that one whose helpers have all answered has ended
pub record IsProbing (probing : ProbeState) : Type 0 where
  pub numbered : probing.last ≤ greatest_number
  pub different : AllDifferent probing.rest
  pub waited : (p : OpenedProbe) → probing.running ≡ Some p → first_waiting p.asked ≡ None → p.asked ≡ []

-- the random choices to come
abbrev pub choices : ProbeState → Stream
choices s = choices_of s.generator

-- the target of the probe of this number, if it runs
abbrev pub running_target : ProbeState → ℕ → Option ℕ
running_target s number = option_and_then (λ a. if number == s.last then Some a.target else None) s.running

-- the result of a helper's report: stale unless the probe runs, not asked unless the helper is waited for
abbrev pub would_say : ProbeState → ℕ → ℕ → Said → Result Outcome DetectorError
would_say s number helper said =
    option_map_or
    (λ a. if number == s.last then (if waits a.asked helper then Ok (outcome_after a.asked helper said) else Err refusals.NotAsked) else Err refusals.StaleProbe)
    s.running
    (Err refusals.StaleProbe)

-- a probe that waits for more notes the word, and any other outcome ends it
abbrev pub left_running : Outcome → ℕ → Said → OpenedProbe → Option OpenedProbe
left_running outcomes.Waiting helper said a = Some (record a { asked = map (noted helper said) a.asked })
left_running outcomes.Reached helper said a = None
left_running outcomes.Suspect helper said a = None
left_running outcomes.Inconclusive helper said a = None

-- the prober after a helper's report and its outcome
abbrev pub after_saying : ProbeState → ℕ → Said → Outcome → ProbeState
after_saying s helper said o = record s { running = option_and_then (left_running o helper said) s.running }

-- the target of the probe of this number, if it runs and no helper was asked
abbrev pub unasked_target : ProbeState → ℕ → Option ℕ
unasked_target s number = option_and_then (λ a. if (number == s.last) && (length a.asked == 0) then Some a.target else None) s.running

-- how many helpers are asked
abbrev pub helper_count : ProbeState → List ℕ → ℕ → ℕ
helper_count s pingable target = min s.helpers (length (others pingable target))
