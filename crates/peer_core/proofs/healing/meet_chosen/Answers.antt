use Rattle.peer_core.proofs.Exchanges.{sent_listed, sent_none}
use Rattle.peer_core.specs.Exchanges.{listed}
use Rattle.peer_core.proofs.healing.meet_chosen.Goals as goal

pub returns-in-Some-clause-sent : goal.returns-in-Some-clause-sent
returns-in-Some-clause-sent g c = sent_listed c.args.member c.in-Some.member c.in-Some.is c.meet.ensures.sent

pub returns-in-None-clause-sent : goal.returns-in-None-clause-sent
returns-in-None-clause-sent g c = sent_none (listed c.args.member)
