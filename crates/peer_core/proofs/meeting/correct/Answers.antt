use Rattle.peer_core.proofs.Healed.{corrected_as}
use Rattle.peer_core.proofs.Parts.{does_next, does_stop_at}
use Rattle.std.proofs.Common.{[], ◌∷◌}
use Rattle.peer_core.proofs.Exchanges.{sent_hushed, sent_more, sent_then}
use Rattle.peer_core.proofs.Hushed.{hushes_own}
use Rattle.peer_core.proofs.meeting.correct.Goals as goal

pub returns-in_err-own-clause-did : goal.returns-in_err-own-clause-did
returns-in_err-own-clause-did g c = does_stop_at _ _ _ c.from_residual.result c.from_residual.ensures.1 c.in_err-own.ensures.did

pub returns-clause-did : goal.returns-clause-did
returns-clause-did g c =
    does_next _ _ _ _ c.in_ok-own.ensures.did
    (corrected_as g.L.Link.may_answer c.args.now c.args.member _ c.is_misnamed.result c.is_misnamed.ensures c.correct_if.ensures.did)

pub returns-in_err-own-clause-sent : goal.returns-in_err-own-clause-sent
returns-in_err-own-clause-sent g c = sent_more (c.args.member ∷ []) (sent_hushed hushes_own c.in_err-own.ensures.did)

pub returns-clause-sent : goal.returns-clause-sent
returns-clause-sent g c = sent_then (sent_hushed hushes_own c.in_ok-own.ensures.did) c.correct_if.ensures.sent
