use Rattle.node_core.specs.declared.events.Event.TheVariants as call
use Rattle.node_core.specs.declared.events.Reply.TheVariants as reply
use Rattle.peer_core.proofs.Parts.{barred_call, did_call, does_give, does_next_is, does_stop_locked}
use Rattle.peer_core.proofs.Served.{sends_nothing, tells_as}
use Rattle.peer_core.proofs.serving.tell_requester.Goals as goal

pub returns-in_err-made-clause-did : goal.returns-in_err-made-clause-did
returns-in_err-made-clause-did g c =
    tells_as _ _ _ _ c.in-Some.is
    (does_stop_locked _ _ c.in_err-made.field-0.0 c.from_residual.result c.from_residual.ensures.1
    (barred_call (call.PingReqAckTo c.args.requester c.args.target c.in-Some.reached) reply.PingReqAckTo c.in_err-made.field-0.0 c.in_err-made.ensures.refused))

pub returns-in-Ok-clause-did : goal.returns-in-Ok-clause-did
returns-in-Ok-clause-did g c =
    tells_as _ _ _ _ c.in-Some.is
    (does_next_is _ _ _ _ _ (did_call (call.PingReqAckTo c.args.requester c.args.target c.in-Some.reached) reply.PingReqAckTo _ c.in_ok-made.ensures.called) c.in-Ok.is (does_give _ _ _))

pub returns-in-Err-clause-did : goal.returns-in-Err-clause-did
returns-in-Err-clause-did g c =
    tells_as _ _ _ _ c.in-Some.is
    (does_next_is _ _ _ _ _ (did_call (call.PingReqAckTo c.args.requester c.args.target c.in-Some.reached) reply.PingReqAckTo _ c.in_ok-made.ensures.called) c.in-Err.is
    (sends_nothing c.args.requester c.args.target c.in-Some.reached _ _ c.in-Err.is c.in_ok-made.ensures.called c.refuse-in-Err.ensures.did))
