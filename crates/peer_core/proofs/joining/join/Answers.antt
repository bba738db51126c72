use Rattle.std.proofs.Common.{rules}
use Rattle.peer_core.proofs.Exchanges.{sent_over}
use Rattle.peer_core.proofs.joining.join.Goals as goal

pub returns-in_err-count-clause-sent : goal.returns-in_err-count-clause-sent
returns-in_err-count-clause-sent g c = sent_over c.new-peers.ensures.link (search rules) c.join_all.ensures.sent

pub returns-then-count-eq0-clause-sent : goal.returns-then-count-eq0-clause-sent
returns-then-count-eq0-clause-sent g c = sent_over c.new-peers.ensures.link (search rules) c.join_all.ensures.sent

pub returns-clause-sent : goal.returns-clause-sent
returns-clause-sent g c = sent_over c.new-peers.ensures.link (search rules) c.join_all.ensures.sent
