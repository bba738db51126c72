use Rattle.std.proofs.Common.{ap, Ok}
use Rattle.peer_core.proofs.Parts.{does_as}
use Rattle.peer_core.proofs.Parts.{does_give, does_next, does_next_is, does_stop_at}
use Rattle.peer_core.proofs.gossiping.fail_one.Goals as goal

pub returns-in_err-running-in-Waiting-clause-did : goal.returns-in_err-running-in-Waiting-clause-did
returns-in_err-running-in-Waiting-clause-did g c =
    does_next_is _ _ _ _ _ c.in_ok-outcome.ensures.did c.in-Waiting.is
    (does_stop_at _ _ _ c.from_residual-in_err-running-in-Waiting.result c.from_residual-in_err-running-in-Waiting.ensures.1 c.in_err-running-in-Waiting.ensures.did)

pub returns-in_ok-running-in-Waiting-clause-did : goal.returns-in_ok-running-in-Waiting-clause-did
returns-in_ok-running-in-Waiting-clause-did g c =
    does_next_is _ _ _ _ _ c.in_ok-outcome.ensures.did c.in-Waiting.is
    (does_next _ _ _ _ c.in_ok-running-in-Waiting.ensures.did (does_as (ap Ok c.waited_for.ensures) (does_give _ _ _)))
