use Rattle.std.proofs.Common.{rules}
use Rattle.peer_core.proofs.Exchanges.{no_join, sent_join, sent_still}
use Rattle.peer_core.proofs.asking.send_join.Goals as goal

pub returns-in_err-made-clause-sent : goal.returns-in_err-made-clause-sent
returns-in_err-made-clause-sent g c = sent_still _ c.in_err-made.ensures.refused.0

pub returns-in_default-clause-sent : goal.returns-in_default-clause-sent
returns-in_default-clause-sent g c = no_join c.args.host c.in_ok-made.made c.in_ok-made.ensures.called (search rules)

pub returns-clause-sent : goal.returns-clause-sent
returns-clause-sent g c = sent_join c.args.host c.in_ok-made.made c.in-Ok.message c.in_ok-made.ensures.called c.in-Ok.is c.send-answer.ensures.same c.send-answer.ensures.sent
