use Rattle.peer_core.proofs.Hosts.{hears_as}
use Rattle.peer_core.proofs.Parts.{does_fail_memory, does_give, does_next, does_stop_at}
use Rattle.peer_core.proofs.joining.take_joined.Goals as goal

pub returns-in_err-take-in-Answer-clause-did : goal.returns-in_err-take-in-Answer-clause-did
returns-in_err-take-in-Answer-clause-did g c =
    hears_as _ _ _ c.in-Answer.is (does_stop_at _ _ _ c.from_residual.result c.from_residual.ensures.1 c.in_err-take-in-Answer.ensures.did)

pub returns-in_ok-take-in-Answer-clause-did : goal.returns-in_ok-take-in-Answer-clause-did
returns-in_ok-take-in-Answer-clause-did g c = hears_as _ _ _ c.in-Answer.is (does_next _ _ _ _ c.in_ok-take-in-Answer.ensures.did (does_give _ _ _))

pub returns-in-Other-clause-did : goal.returns-in-Other-clause-did
returns-in-Other-clause-did g c = hears_as _ _ _ c.in-Other.is (does_give _ _ _)

pub returns-in-OutOfMemory-clause-did : goal.returns-in-OutOfMemory-clause-did
returns-in-OutOfMemory-clause-did g c = hears_as _ _ _ c.in-OutOfMemory.is (does_fail_memory _ _)
