use Rattle.peer_core.proofs.Named.{named_call, named_joining}
use Rattle.peer_core.proofs.Parts.{does_as, does_call}
use Rattle.peer_core.proofs.steps.receive.Goals as goal

pub returns-clause-did : goal.returns-clause-did
returns-clause-did g c = does_as c.let_in.ensures (does_call _ _ _ c.receive-answer.result c.receive-answer.ensures.called c.receive-answer.ensures.refused)

pub returns-clause-named : goal.returns-clause-named
returns-clause-named g c = named_call c.receive-answer.result c.let_in.result c.let_in.ensures

pub returns-clause-named_joining : goal.returns-clause-named_joining
returns-clause-named_joining g c = named_joining c.receive-answer.result c.let_in.result c.let_in.ensures
