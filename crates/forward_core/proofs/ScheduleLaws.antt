-- An attempt keeps its schedule.
use Rattle.std.proofs.Common.{◌≡◌, ℕ, ◌+◌, ◌<◌, ◌≤◌, List, [], ◌∷◌, Result, Ok, Err, refl, sym, subst, arith}
use Rattle.node_core.specs.Viewing.{Viewed}
use Rattle.forward_core.specs.declared.attempts.Stage.{Stage}
use Rattle.forward_core.specs.declared.attempts.Stage.TheVariants as stage
use Rattle.forward_core.specs.declared.attempts.Step.{Step}
use Rattle.forward_core.specs.declared.attempts.Step.TheVariants.{Wait, Here, Send}
use Rattle.forward_core.specs.declared.errors.ForwardError.{ForwardError}
use Rattle.forward_core.specs.declared.errors.ForwardError.TheVariants as error
use Rattle.forward_core.specs.Attempts.{AttemptState, started, most_sends, pause_after, IsAttempt, IsDue, ReadyStep, FailedStep}
use Rattle.forward_core.specs.Schedule.{AttemptCall, ready, failed, AttemptEntry, AttemptStep, IsRun, Mark, sent_at, failed_at, marked, marks_of, IsSchedule, KeepsSchedule}

-- what follows a send, the last of n
abbrev Follows : ℕ → List Mark → Type 0
Follows n [] = Unit {0}
Follows n (failed_at f ∷ marks) = IsSchedule n (f + pause_after n) marks
Follows n (sent_at s ∷ marks) = ⊥

-- what may come of an attempt by how it stands
abbrev Comes : ℕ → Stage → List Mark → Type 0
Comes n stage.New marks = IsSchedule 0 0 marks
Comes n stage.InFlight marks = Follows n marks
Comes n (stage.Resting until) marks = IsSchedule n until marks
Comes n stage.Spent marks = marks ≡ []

schedule-sent : (n from s : ℕ) (marks : List Mark) → n < most_sends → from ≤ s → Follows (n + 1) marks → IsSchedule n from (sent_at s ∷ marks)
schedule-sent n from s [] few late h = (few, late)
schedule-sent n from s (failed_at f ∷ marks) few late h = (few, late, h)
schedule-sent n from s (sent_at t ∷ marks) few late h = h

comes-sent : (n now : ℕ) (st : Stage) (marks : List Mark) → IsAttempt n st → IsDue st now → Follows (n + 1) marks → Comes n st (sent_at now ∷ marks)
comes-sent n now stage.New marks whole due h = let e : n ≡ 0 = whole in schedule-sent 0 0 now marks (omega arith) (omega arith) (subst (λ m. Follows (m + 1) marks) e h)
comes-sent n now (stage.Resting until) marks whole due h = schedule-sent n until now marks whole.1 due h
comes-sent n now stage.InFlight marks whole due h = absurd due
comes-sent n now stage.Spent marks whole due h = absurd due

due-whole : (n now : ℕ) (st : Stage) → IsAttempt n st → IsDue st now → IsAttempt (n + 1) stage.InFlight
due-whole n now stage.New whole due = (omega arith, omega (arith, whole))
due-whole n now (stage.Resting until) whole due = (omega arith, omega (arith, whole.1))
due-whole n now stage.InFlight whole due = absurd due
due-whole n now stage.Spent whole due = absurd due

-- where a call leads to an attempt of which this comes
abbrev Later : List Mark → AttemptState → Type 0
Later marks s = IsAttempt s.sends s.stage → Comes s.sends s.stage marks

comes-same : (old new : AttemptState) (marks : List Mark) → new ≡ old → IsAttempt old.sends old.stage → Later marks new → Comes old.sends old.stage marks
comes-same old new marks e whole later = subst (Later marks) e later whole

comes-nothing : (n : ℕ) (st : Stage) → Comes n st []
comes-nothing n stage.New = tt
comes-nothing n stage.InFlight = tt
comes-nothing n (stage.Resting until) = tt
comes-nothing n stage.Spent = refl

module _ {H : Type 0} (hash_of : H → List ℕ → ℕ) where
  comes-failed : (old new : AttemptState) (now : ℕ) (marks : List Mark) (result : Result (Unit {0}) ForwardError)
      → IsAttempt old.sends old.stage → FailedStep now old result new → Later marks new → Comes old.sends old.stage (marked {H = H} (failed now result) marks)
  comes-failed old new now marks (Ok done) whole h later =
      let flying = subst (IsAttempt old.sends) h.0 whole in
      subst (λ st. Comes old.sends st (failed_at now ∷ marks)) (sym h.0) (subst (Later marks) h.2 later (flying.0, h.1))
  comes-failed old new now marks (Err error.RetriesSpent) whole h later =
      let none : marks ≡ [] = subst (Later marks) h.2 later h.1 in
      subst (λ st. Comes old.sends st (failed_at now ∷ marks)) (sym h.0) (subst (IsSchedule old.sends (now + pause_after old.sends)) (sym none) tt)
  comes-failed old new now marks (Err error.NotInFlight) whole h later = comes-same old new marks h.1 whole later
  comes-failed old new now marks (Err error.InFlight) whole h later = absurd h
  comes-failed old new now marks (Err error.Diverged) whole h later = absurd h
  comes-failed old new now marks (Err error.Nobody) whole h later = absurd h

  comes-ready : (view : Viewed H) (now : ℕ) (old new : AttemptState) (marks : List Mark) (result : Result Step ForwardError)
      → IsAttempt old.sends old.stage → ReadyStep hash_of view now old result new → Later marks new → Comes old.sends old.stage (marked (ready view now result) marks)
  comes-ready view now old new marks (Ok (Send a)) whole h later =
      comes-sent old.sends now old.stage marks whole h.0 (subst (Later marks) h.3 later (due-whole old.sends now old.stage whole h.0))
  comes-ready view now old new marks (Ok (Wait until)) whole h later = comes-same old new marks h.3 whole later
  comes-ready view now old new marks (Ok Here) whole h later = comes-same old new marks h.2 whole later
  comes-ready view now old new marks (Err error.RetriesSpent) whole h later = comes-same old new marks h.1 whole later
  comes-ready view now old new marks (Err error.InFlight) whole h later = comes-same old new marks h.1 whole later
  comes-ready view now old new marks (Err error.Diverged) whole h later = comes-same old new marks h.2 whole later
  comes-ready view now old new marks (Err error.Nobody) whole h later = comes-same old new marks h.2 whole later
  comes-ready view now old new marks (Err error.NotInFlight) whole h later = absurd h

  comes-call : (call : AttemptCall H) (old new : AttemptState) (marks : List Mark)
      → IsAttempt old.sends old.stage → AttemptStep hash_of old call new → Later marks new → Comes old.sends old.stage (marked call marks)
  comes-call (ready view now result) old new marks whole h later = comes-ready view now old new marks result whole h later
  comes-call (failed now result) old new marks whole h later = comes-failed old new now marks result whole h later

  comes : (run : List (AttemptEntry H)) (old : AttemptState) → IsAttempt old.sends old.stage → IsRun hash_of old run → Comes old.sends old.stage (marks_of run)
  comes [] old whole h = comes-nothing old.sends old.stage
  comes (e ∷ rest) old whole h = comes-call e.call old e.after (marks_of rest) whole h.0 (λ kept. comes rest e.after kept h.1)

pub keeps_schedule : {H : Type 0} (hash_of : H → List ℕ → ℕ) → KeepsSchedule hash_of
keeps_schedule hash_of keys run h = comes hash_of run (started keys) refl h
