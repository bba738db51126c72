use Rattle.peer_core.proofs.Healed.{named_healing}
use Rattle.peer_core.proofs.Parts.{does_as, does_call}
use Rattle.peer_core.proofs.steps.find_own.Goals as goal

pub returns-clause-did : goal.returns-clause-did
returns-clause-did g c = does_as c.let_in.ensures (does_call _ _ _ c.own-answer.result c.own-answer.ensures.called c.own-answer.ensures.refused)

pub returns-clause-named : goal.returns-clause-named
returns-clause-named g c = named_healing c.own-answer.result c.let_in.result c.let_in.ensures
