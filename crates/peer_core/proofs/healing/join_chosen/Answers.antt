use Rattle.peer_core.proofs.Exchanges.{sent_listed, sent_none}
use Rattle.peer_core.specs.Exchanges.{listed}
use Rattle.peer_core.proofs.healing.join_chosen.Goals as goal

pub returns-in-Some-clause-sent : goal.returns-in-Some-clause-sent
returns-in-Some-clause-sent g c = sent_listed c.args.host c.in-Some.host c.in-Some.is c.join_host.ensures.sent

pub returns-in-None-clause-sent : goal.returns-in-None-clause-sent
returns-in-None-clause-sent g c = sent_none (listed c.args.host)
