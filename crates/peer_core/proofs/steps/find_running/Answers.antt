use Rattle.peer_core.proofs.Named.{named_call}
use Rattle.peer_core.proofs.Parts.{does_as, does_call}
use Rattle.peer_core.proofs.steps.find_running.Goals as goal

pub returns-clause-did : goal.returns-clause-did
returns-clause-did g c = does_as c.let_in.ensures (does_call _ _ _ c.running-answer.result c.running-answer.ensures.called c.running-answer.ensures.refused)

pub returns-clause-named : goal.returns-clause-named
returns-clause-named g c = named_call c.running-answer.result c.let_in.result c.let_in.ensures
