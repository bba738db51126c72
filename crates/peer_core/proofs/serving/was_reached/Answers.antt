use Rattle.node_core.specs.declared.events.Event.TheVariants as call
use Rattle.node_core.specs.declared.events.Reply.TheVariants as reply
use Rattle.peer_core.proofs.Parts.{barred_call, did_call, does_give, does_next, does_stop_locked}
use Rattle.peer_core.proofs.Served.{seeks_as}
use Rattle.peer_core.proofs.serving.was_reached.Goals as goal

pub returns-in_err-_received-in-Answer-clause-did : goal.returns-in_err-_received-in-Answer-clause-did
returns-in_err-_received-in-Answer-clause-did g c =
    seeks_as _ _ _ c.in-Answer.is
    (does_stop_locked _ _ c.in_err-_received-in-Answer.field-0.0 c.from_residual.result c.from_residual.ensures.1 (barred_call (call.Receive c.in-Answer.ack c.args.now) reply.Receive c.in_err-_received-in-Answer.field-0.0 c.in_err-_received-in-Answer.ensures.refused))

pub returns-in_ok-_received-in-Answer-clause-did : goal.returns-in_ok-_received-in-Answer-clause-did
returns-in_ok-_received-in-Answer-clause-did g c =
    seeks_as _ _ _ c.in-Answer.is
    (does_next _ _ _ _ (did_call (call.Receive c.in-Answer.ack c.args.now) reply.Receive _ c.in_ok-_received-in-Answer.ensures.called) (does_give _ _ _))
