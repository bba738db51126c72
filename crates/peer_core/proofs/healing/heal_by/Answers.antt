use Rattle.std.proofs.Common.{[]}
use Rattle.peer_core.proofs.Exchanges.{sent_drawn_none, sent_none}
use Rattle.peer_core.proofs.healing.heal_by.Goals as goal

pub returns-in-None-clause-sent : goal.returns-in-None-clause-sent
returns-in-None-clause-sent g c = sent_drawn_none g.L.Link.went c.args.hosts.now c.args.draws (sent_none [])
