use Rattle.peer_core.proofs.Named.{named_call}
use Rattle.peer_core.proofs.Parts.{does_as, does_ask}
use Rattle.peer_core.proofs.probing.ask_about.Goals as goal

pub returns-clause-did : goal.returns-clause-did
returns-clause-did g c = does_as c.let_in.ensures (does_ask _ c.send_ping_req-heard.result c.send_ping_req-heard.ensures.asked c.send_ping_req-heard.ensures.refused)

pub returns-clause-named : goal.returns-clause-named
returns-clause-named g c = named_call c.send_ping_req-heard.result c.let_in.result c.let_in.ensures
