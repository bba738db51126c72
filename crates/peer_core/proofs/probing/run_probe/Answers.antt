use Rattle.peer_core.proofs.Parts.{does_next}
use Rattle.peer_core.proofs.Exchanges.{sent_then}
use Rattle.peer_core.proofs.probing.run_probe.Goals as goal

pub returns-clause-did : goal.returns-clause-did
returns-clause-did g c = does_next _ _ _ _ c.in_ok-heard.ensures.did c.hear_target.ensures.did

pub returns-clause-sent : goal.returns-clause-sent
returns-clause-sent g c = sent_then c.in_ok-heard.ensures.sent c.hear_target.ensures.sent
