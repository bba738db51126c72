use Rattle.peer_core.proofs.Healed.{named_listing}
use Rattle.peer_core.proofs.Parts.{does_as, does_try}
use Rattle.peer_core.proofs.steps.list_members.Goals as goal

pub returns-clause-did : goal.returns-clause-did
returns-clause-did g c = does_as c.allowed.ensures (does_try _ _ _ c.members-answer.result c.members-answer.ensures.called c.members-answer.ensures.refused)

pub returns-clause-named : goal.returns-clause-named
returns-clause-named g c = named_listing _ _ _ _ c.members-answer.result c.allowed.result c.members-answer.ensures.called c.allowed.ensures
