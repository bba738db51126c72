use Rattle.std.proofs.Common.{[], rules}
use Rattle.peer_core.proofs.Exchanges.{no_ping, sent_ping, sent_still}
use Rattle.peer_core.proofs.asking.ping.Goals as goal

pub returns-in_err-made-clause-sent : goal.returns-in_err-made-clause-sent
returns-in_err-made-clause-sent g c = sent_still [] c.in_err-made.ensures.refused.0

pub returns-in_default-clause-sent : goal.returns-in_default-clause-sent
returns-in_default-clause-sent g c = no_ping c.args.target c.in_ok-made.made c.in_ok-made.ensures.called (search rules)

pub returns-clause-sent : goal.returns-clause-sent
returns-clause-sent g c = sent_ping c.args.target c.in_ok-made.made c.in-Ok.message c.in_ok-made.ensures.called c.in-Ok.is c.send-answer.ensures.same c.send-answer.ensures.sent
