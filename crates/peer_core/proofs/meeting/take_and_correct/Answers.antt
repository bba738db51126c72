use Rattle.peer_core.proofs.Parts.{does_next, does_stop_at}
use Rattle.std.proofs.Common.{[], ◌∷◌}
use Rattle.peer_core.proofs.Exchanges.{sent_hushed, sent_more, sent_then}
use Rattle.peer_core.proofs.Hushed.{hushes_host}
use Rattle.peer_core.proofs.meeting.take_and_correct.Goals as goal

pub returns-in_err-take_joined-clause-did : goal.returns-in_err-take_joined-clause-did
returns-in_err-take_joined-clause-did g c = does_stop_at _ _ _ c.from_residual.result c.from_residual.ensures.1 c.in_err-take_joined.ensures.did

pub returns-clause-did : goal.returns-clause-did
returns-clause-did g c = does_next _ _ _ _ c.in_ok-take_joined.ensures.did c.correct.ensures.did

pub returns-in_err-take_joined-clause-sent : goal.returns-in_err-take_joined-clause-sent
returns-in_err-take_joined-clause-sent g c = sent_more (c.args.member ∷ []) (sent_hushed (hushes_host c.args.now c.args.heard.now) c.in_err-take_joined.ensures.did)

pub returns-clause-sent : goal.returns-clause-sent
returns-clause-sent g c = sent_then (sent_hushed (hushes_host c.args.now c.args.heard.now) c.in_ok-take_joined.ensures.did) c.correct.ensures.sent
