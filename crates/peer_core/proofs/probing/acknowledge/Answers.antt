use Rattle.peer_core.proofs.Parts.{does_give, does_next, does_stop_at}
use Rattle.peer_core.proofs.probing.acknowledge.Goals as goal

pub returns-in_err-acked-clause-did : goal.returns-in_err-acked-clause-did
returns-in_err-acked-clause-did g c =
    does_next _ _ _ _ c.in_ok-take.ensures.did
    (does_stop_at _ _ _ c.from_residual-in_err-acked.result c.from_residual-in_err-acked.ensures.1 c.in_err-acked.ensures.did)

pub returns-clause-did : goal.returns-clause-did
returns-clause-did g c = does_next _ _ _ _ c.in_ok-take.ensures.did (does_next _ _ _ _ c.in_ok-acked.ensures.did (does_give _ _ _))
