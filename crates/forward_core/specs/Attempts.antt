-- An attempt: a request that is sent again on a fixed schedule, each time to the owner of its keys at that time. Both the number of sends
-- and the pauses are this project's.
use Rattle.std.specs.Prelude.{◌≡◌, ◌≢◌, ℕ, ◌+◌, ◌-◌, ◌<◌, ◌≤◌, List, [], ◌∷◌, slice_index, Some, Result, Ok, Err}
use Rattle.change_core.specs.declared.addresses.Address.{Address}
use Rattle.node_core.specs.Viewing.{Viewed}
use Rattle.forward_core.specs.declared.attempts.Stage.{Stage}
use Rattle.forward_core.specs.declared.attempts.Stage.TheVariants as stage
use Rattle.forward_core.specs.declared.attempts.Step.{Step}
use Rattle.forward_core.specs.declared.attempts.Step.TheVariants.{Wait, Here, Send}
use Rattle.forward_core.specs.declared.errors.ForwardError.{ForwardError}
use Rattle.forward_core.specs.declared.errors.ForwardError.TheVariants as error
use Rattle.forward_core.specs.Routes.{AllOwnedBy, HaveDiverged}

-- the model of an `Attempt`: its keys, how often it was sent, and its stage
pub record AttemptState : Type 0 where
  pub keys : List (List ℕ)
  pub sends : ℕ
  pub stage : Stage

-- the model of a `Lent`, an attempt whose keys are lent
pub record LentState : Type 0 where
  pub sends : ℕ
  pub stage : Stage

-- the attempt for these keys in this state
abbrev pub with_keys : List (List ℕ) → LentState → AttemptState
with_keys keys lent = record { keys = keys; sends = lent.sends; stage = lent.stage }

-- one that has not been sent
abbrev pub started : List (List ℕ) → AttemptState
started keys = record { keys = keys; sends = 0; stage = stage.New }

-- the greatest number of sends of one
abbrev pub most_sends : ℕ
most_sends = 4

-- its pauses in milliseconds after its first, second and third failure
abbrev pub pauses : List ℕ
pauses = 3000 ∷ 6000 ∷ 12000 ∷ []

-- and after the last of this number of failures
abbrev pub pause_after : ℕ → ℕ
pause_after failures = slice_index pauses (failures - 1)

-- the stage agrees with how often it was sent
abbrev pub IsAttempt : ℕ → Stage → Type 0
IsAttempt sends stage.New = sends ≡ 0
IsAttempt sends stage.InFlight = (0 < sends) × (sends ≤ most_sends)
IsAttempt sends (stage.Resting until) = (0 < sends) × (sends < most_sends)
IsAttempt sends stage.Spent = sends ≡ most_sends

-- it is neither spent nor in flight
abbrev pub IsOpen : Stage → Type 0
IsOpen stage.New = Unit {0}
IsOpen (stage.Resting until) = Unit {0}
IsOpen stage.InFlight = ⊥
IsOpen stage.Spent = ⊥

-- it is open, and does not rest at this moment
abbrev pub IsDue : Stage → ℕ → Type 0
IsDue stage.New now = Unit {0}
IsDue (stage.Resting until) now = until ≤ now
IsDue stage.InFlight now = ⊥
IsDue stage.Spent now = ⊥

-- with one send more, which is in flight
abbrev pub sent : AttemptState → AttemptState
sent a = record a { sends = a.sends + 1; stage = stage.InFlight }

-- the next step of an attempt now, by a view, and the attempt after that
abbrev pub ReadyStep : {H : Type 0} → (H → List ℕ → ℕ) → Viewed H → ℕ → AttemptState → Result Step ForwardError → AttemptState → Type 0
ReadyStep hash_of view now old (Err error.RetriesSpent) new = (old.stage ≡ stage.Spent) × (new ≡ old)
ReadyStep hash_of view now old (Err error.InFlight) new = (old.stage ≡ stage.InFlight) × (new ≡ old)
ReadyStep hash_of view now old (Err error.Diverged) new = IsOpen old.stage × HaveDiverged hash_of view old.keys × (new ≡ old)
ReadyStep hash_of view now old (Err error.Nobody) new = IsOpen old.stage × (view.servers ≡ []) × (new ≡ old)
ReadyStep hash_of view now old (Ok (Wait until)) new =
    (old.stage ≡ stage.Resting until) × (now < until) × ((a : Address) × AllOwnedBy hash_of view old.keys (Some a)) × (new ≡ old)
ReadyStep hash_of view now old (Ok Here) new = IsDue old.stage now × AllOwnedBy hash_of view old.keys (Some view.own) × (new ≡ old)
ReadyStep hash_of view now old (Ok (Send a)) new =
    IsDue old.stage now × AllOwnedBy hash_of view old.keys (Some a) × (a ≢ view.own) × (new ≡ sent old)
ReadyStep hash_of view now old (Err other) new = ⊥

-- the attempt after its send failed at this moment
abbrev pub FailedStep : ℕ → AttemptState → Result (Unit {0}) ForwardError → AttemptState → Type 0
FailedStep now old (Ok done) new =
    (old.stage ≡ stage.InFlight) × (old.sends < most_sends) × (new ≡ record old { stage = stage.Resting (now + pause_after old.sends) })
FailedStep now old (Err error.RetriesSpent) new = (old.stage ≡ stage.InFlight) × (old.sends ≡ most_sends) × (new ≡ record old { stage = stage.Spent })
FailedStep now old (Err error.NotInFlight) new = (old.stage ≢ stage.InFlight) × (new ≡ old)
FailedStep now old (Err other) new = ⊥
