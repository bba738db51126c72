-- Results are determined: from the same no two results differ, nor the attempts after them.
use Rattle.std.specs.Prelude.{◌≡◌, ℕ, ◌<◌, List, length, Result}
use Rattle.node_core.specs.Viewing.{Viewed}
use Rattle.forward_core.specs.declared.attempts.Step.{Step}
use Rattle.forward_core.specs.declared.errors.ForwardError.{ForwardError}
use Rattle.forward_core.specs.declared.routes.Route.{Route}
use Rattle.forward_core.specs.Attempts.{AttemptState, ReadyStep, FailedStep}
use Rattle.forward_core.specs.Routes.{IsRouteOf}

-- a request has one route by a view, or has diverged
abbrev pub RoutesAreOne : {H : Type 0} → (H → List ℕ → ℕ) → Type 0
RoutesAreOne {H} hash_of =
    (view : Viewed H) (keys : List (List ℕ)) (r s : Result Route ForwardError)
    → 0 < length keys → IsRouteOf hash_of view keys r → IsRouteOf hash_of view keys s → r ≡ s

-- by a view and at a moment one thing is to be done with an attempt
abbrev pub StepsAreOne : {H : Type 0} → (H → List ℕ → ℕ) → Type 0
StepsAreOne {H} hash_of =
    (view : Viewed H) (now : ℕ) (old m n : AttemptState) (r s : Result Step ForwardError)
    → 0 < length old.keys → ReadyStep hash_of view now old r m → ReadyStep hash_of view now old s n → (r ≡ s) × (m ≡ n)

-- a failure leaves one attempt
abbrev pub FailuresAreOne : Type 0
FailuresAreOne =
    (now : ℕ) (old m n : AttemptState) (r s : Result (Unit {0}) ForwardError) → FailedStep now old r m → FailedStep now old s n → (r ≡ s) × (m ≡ n)
