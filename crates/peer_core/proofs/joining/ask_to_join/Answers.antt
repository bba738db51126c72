use Rattle.peer_core.proofs.Named.{named_joining}
use Rattle.peer_core.proofs.Parts.{does_as, does_ask}
use Rattle.peer_core.proofs.joining.ask_to_join.Goals as goal

pub returns-clause-did : goal.returns-clause-did
returns-clause-did g c = does_as c.let_in.ensures (does_ask _ c.send_join-heard.result c.send_join-heard.ensures.applied c.send_join-heard.ensures.refused)

pub returns-clause-named : goal.returns-clause-named
returns-clause-named g c = named_joining c.send_join-heard.result c.let_in.result c.let_in.ensures
