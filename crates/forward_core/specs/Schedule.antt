-- The times at which an attempt is sent: a run of its calls, and the sends and failures in the run.
use Rattle.std.specs.Prelude.{ℕ, ◌+◌, ◌<◌, ◌≤◌, List, [], ◌∷◌, Result, Ok, Err}
use Rattle.node_core.specs.Viewing.{Viewed}
use Rattle.forward_core.specs.declared.attempts.Step.{Step}
use Rattle.forward_core.specs.declared.attempts.Step.TheVariants.{Send}
use Rattle.forward_core.specs.declared.errors.ForwardError.{ForwardError}
use Rattle.forward_core.specs.declared.errors.ForwardError.TheVariants.{RetriesSpent}
use Rattle.forward_core.specs.Attempts.{AttemptState, started, most_sends, pause_after, ReadyStep, FailedStep}

-- a call of an attempt, with its answer
pub data AttemptCall (H : Type 0) : Type 0 where
  ready : Viewed H → ℕ → Result Step ForwardError → AttemptCall H
  failed : ℕ → Result (Unit {0}) ForwardError → AttemptCall H

-- and with the attempt after it
pub record AttemptEntry (H : Type 0) : Type 0 where
  pub call : AttemptCall H
  pub after : AttemptState

-- from old, the call has this result and leaves new
abbrev pub AttemptStep : {H : Type 0} → (H → List ℕ → ℕ) → AttemptState → AttemptCall H → AttemptState → Type 0
AttemptStep hash_of old (ready view now result) new = ReadyStep hash_of view now old result new
AttemptStep hash_of old (failed now result) new = FailedStep now old result new

-- from old, the calls follow one another
abbrev pub IsRun : {H : Type 0} → (H → List ℕ → ℕ) → AttemptState → List (AttemptEntry H) → Type 0
IsRun hash_of old [] = Unit {0}
IsRun hash_of old (e ∷ rest) = AttemptStep hash_of old e.call e.after × IsRun hash_of e.after rest

-- a send or a failure, at its moment
pub data Mark : Type 0 where
  sent_at : ℕ → Mark
  failed_at : ℕ → Mark

-- the marks that a call adds to them
abbrev pub marked : {H : Type 0} → AttemptCall H → List Mark → List Mark
marked (ready view now (Ok (Send a))) marks = sent_at now ∷ marks
marked (failed now (Ok done)) marks = failed_at now ∷ marks
marked (failed now (Err RetriesSpent)) marks = failed_at now ∷ marks
marked call marks = marks

-- the sends and failures of a run, in their order
abbrev pub marks_of : {H : Type 0} → List (AttemptEntry H) → List Mark
marks_of [] = []
marks_of (e ∷ rest) = marked e.call (marks_of rest)

-- after n sends that failed: a send no earlier than a moment, its failure, and so on, each send no earlier than the pause after the
-- failure before it; the last may be in flight
abbrev pub IsSchedule : ℕ → ℕ → List Mark → Type 0
IsSchedule n from [] = Unit {0}
IsSchedule n from (sent_at s ∷ []) = (n < most_sends) × (from ≤ s)
IsSchedule n from (sent_at s ∷ failed_at f ∷ marks) = (n < most_sends) × (from ≤ s) × IsSchedule (n + 1) (f + pause_after (n + 1)) marks
IsSchedule n from (sent_at s ∷ sent_at t ∷ marks) = ⊥
IsSchedule n from (failed_at f ∷ marks) = ⊥

-- whatever the calls, an attempt keeps the schedule
abbrev pub KeepsSchedule : {H : Type 0} → (H → List ℕ → ℕ) → Type 0
KeepsSchedule {H} hash_of = (keys : List (List ℕ)) (run : List (AttemptEntry H)) → IsRun hash_of (started keys) run → IsSchedule 0 0 (marks_of run)
