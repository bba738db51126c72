use Rattle.peer_core.proofs.Parts.{does_next, does_stop_at}
use Rattle.std.proofs.Common.{[], ◌∷◌}
use Rattle.peer_core.proofs.Exchanges.{sent_more, sent_then}
use Rattle.peer_core.proofs.meeting.meet.Goals as goal

pub returns-in_err-heard-clause-did : goal.returns-in_err-heard-clause-did
returns-in_err-heard-clause-did g c = does_stop_at _ _ _ c.from_residual.result c.from_residual.ensures.1 c.in_err-heard.ensures.did

pub returns-clause-did : goal.returns-clause-did
returns-clause-did g c = does_next _ _ _ _ c.in_ok-heard.ensures.did c.take_and_correct.ensures.did

pub returns-in_err-heard-clause-sent : goal.returns-in_err-heard-clause-sent
returns-in_err-heard-clause-sent g c = sent_more (c.args.member ∷ []) c.in_err-heard.ensures.sent

pub returns-clause-sent : goal.returns-clause-sent
returns-clause-sent g c = sent_then c.in_ok-heard.ensures.sent c.take_and_correct.ensures.sent
