use Rattle.peer_core.proofs.Parts.{does_give, does_next}
use Rattle.peer_core.proofs.steps.take.Goals as goal

pub returns-clause-did : goal.returns-clause-did
returns-clause-did g c = does_next _ _ _ _ c.in_ok-_received.ensures.did (does_give _ _ tt)
