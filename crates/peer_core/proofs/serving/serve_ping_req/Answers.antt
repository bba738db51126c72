use Rattle.message_core.specs.declared.messages.Content.TheVariants.{Refused}
use Rattle.node_core.specs.declared.events.Event.TheVariants as call
use Rattle.node_core.specs.declared.events.Reply.TheVariants as reply
use Rattle.peer_core.proofs.Parts.{barred_call, did_call, does_next_is, does_stop_locked}
use Rattle.peer_core.proofs.Served.{refuses_as}
use Rattle.std.proofs.Common.{[]}
use Rattle.peer_core.proofs.Exchanges.{sent_hushed, sent_still, sent_then}
use Rattle.peer_core.proofs.Hushed.{hushes_receives, hushes_says}
use Rattle.peer_core.proofs.serving.serve_ping_req.Goals as goal

pub returns-in_err-received-clause-did : goal.returns-in_err-received-clause-did
returns-in_err-received-clause-did g c =
    does_stop_locked _ _ c.in_err-received.field-0.0 c.from_residual.result c.from_residual.ensures.1 (barred_call (call.Receive c.args.message.now c.args.now) reply.Receive c.in_err-received.field-0.0 c.in_err-received.ensures.refused)

pub returns-in-Done-clause-did : goal.returns-in-Done-clause-did
returns-in-Done-clause-did g c =
    does_next_is _ _ _ _ _ (did_call (call.Receive c.args.message.now c.args.now) reply.Receive _ c.in_ok-received.ensures.called) c.in-Done.is c.report_target.ensures.did

pub returns-in-Stopped-clause-did : goal.returns-in-Stopped-clause-did
returns-in-Stopped-clause-did g c =
    does_next_is _ _ _ _ _ (did_call (call.Receive c.args.message.now c.args.now) reply.Receive _ c.in_ok-received.ensures.called) c.in-Stopped.is
    (refuses_as _ _ c.reason_for-reason.ensures c.refuse.ensures.did)

pub returns-in_err-received-clause-sent : goal.returns-in_err-received-clause-sent
returns-in_err-received-clause-sent g c = sent_still [] c.in_err-received.ensures.refused.0

pub returns-in-Done-clause-sent : goal.returns-in-Done-clause-sent
returns-in-Done-clause-sent g c = sent_then (sent_hushed (hushes_receives c.args.message.now c.args.now) (did_call (call.Receive c.args.message.now c.args.now) reply.Receive _ c.in_ok-received.ensures.called)) c.report_target.ensures.sent

pub returns-in-Stopped-clause-sent : goal.returns-in-Stopped-clause-sent
returns-in-Stopped-clause-sent g c = sent_then (sent_hushed (hushes_receives c.args.message.now c.args.now) (did_call (call.Receive c.args.message.now c.args.now) reply.Receive _ c.in_ok-received.ensures.called)) (sent_hushed (hushes_says (Refused c.reason_for-reason.result)) c.refuse.ensures.did)
