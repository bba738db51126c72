use Rattle.peer_core.specs.Asking.{Pinged}
use Rattle.peer_core.proofs.Parts.{barred_ask, did_ask, does_next, does_stop_locked}
use Rattle.peer_core.proofs.Exchanges.{sent_hushed, sent_then}
use Rattle.peer_core.proofs.Hushed.{hushes_seeks}
use Rattle.peer_core.proofs.serving.ping_target.Goals as goal

pub returns-in_err-heard-clause-did : goal.returns-in_err-heard-clause-did
returns-in_err-heard-clause-did g c =
    does_stop_locked _ _ c.in_err-heard.field-0.0 c.from_residual.result c.from_residual.ensures.1
    (barred_ask (Pinged g.L.Link.may_answer c.args.target) c.in_err-heard.field-0.0 c.in_err-heard.ensures.refused)

pub returns-clause-did : goal.returns-clause-did
returns-clause-did g c = does_next _ _ _ _ (did_ask (Pinged g.L.Link.may_answer c.args.target) _ c.in_ok-heard.ensures.pinged) c.was_reached.ensures.did

pub returns-clause-sent : goal.returns-clause-sent
returns-clause-sent g c = sent_then c.in_ok-heard.ensures.sent (sent_hushed (hushes_seeks c.args.now c.in_ok-heard.heard) c.was_reached.ensures.did)
