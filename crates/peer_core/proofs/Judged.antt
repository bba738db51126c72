-- What an answer comes to that is a failure of the send.
use Rattle.std.proofs.Common.{◌≡◌, ℕ, sym, subst, refl, Result, Ok, Err}
use Rattle.std.specs.Prelude.{IsErrAnd}
use Rattle.message_core.specs.declared.messages.Message.{Message}
use Rattle.forward_core.specs.declared.errors.ForwardError.{ForwardError}
use Rattle.forward_core.specs.declared.errors.ForwardError.TheVariants as forward
use Rattle.forward_core.specs.Attempts.{AttemptState, IsOpen, FailedStep}
use Rattle.peer_core.specs.declared.errors.ClusterError.{ClusterError}
use Rattle.peer_core.specs.declared.errors.LinkError.{LinkError}
use Rattle.peer_core.specs.declared.forwarding.Request.{Request}
use Rattle.peer_core.specs.declared.forwarding.Tried.{Tried}
use Rattle.peer_core.specs.Errors.{error_of_forward}
use Rattle.peer_core.specs.Forwarding.{IsFailure, IsJudged}

module _ (now : ℕ) (request : Request) (answer : Result Message LinkError) (fails : IsFailure answer) where
  judged_error : (new : AttemptState) (f : ForwardError) → FailedStep now request.attempt (Err f) new → IsJudged now request answer (Err (error_of_forward f))
  judged_error new forward.Diverged h = (fails, forward.Diverged, refl, (new, h))
  judged_error new forward.Nobody h = (fails, forward.Nobody, refl, (new, h))
  judged_error new forward.RetriesSpent h = (fails, forward.RetriesSpent, refl, (new, h))
  judged_error new forward.InFlight h = (fails, forward.InFlight, refl, (new, h))
  judged_error new forward.NotInFlight h = (fails, forward.NotInFlight, refl, (new, h))

  -- the attempt is refused
  pub judged_refusal : (new : AttemptState) (f : ForwardError) (r : Result Tried ClusterError)
      → IsErrAnd r (λ x. x ≡ error_of_forward f) → FailedStep now request.attempt (Err f) new → IsJudged now request answer r
  judged_refusal new f (Ok t) is h = absurd is
  judged_refusal new f (Err x) is h = subst (λ (e : ClusterError). IsJudged now request answer (Err e)) (sym is) (judged_error new f h)

-- it rests
pub rests_open : (now : ℕ) (old new : AttemptState) → FailedStep now old (Ok tt) new → IsOpen new.stage
rests_open now old new h = subst (λ (a : AttemptState). IsOpen a.stage) (sym h.2) tt
