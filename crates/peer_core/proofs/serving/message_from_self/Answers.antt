use Rattle.node_core.specs.declared.events.Event.TheVariants as call
use Rattle.node_core.specs.declared.events.Reply.TheVariants as reply
use Rattle.peer_core.proofs.Parts.{barred_call, did_call, does_give, does_next, does_stop_locked}
use Rattle.peer_core.proofs.serving.message_from_self.Goals as goal

pub returns-in_err-own-clause-did : goal.returns-in_err-own-clause-did
returns-in_err-own-clause-did g c =
    does_stop_locked _ _ c.in_err-own.field-0.0 c.from_residual.result c.from_residual.ensures.1 (barred_call call.Own reply.Own c.in_err-own.field-0.0 c.in_err-own.ensures.refused)

pub returns-clause-did : goal.returns-clause-did
returns-clause-did g c = does_next _ _ _ _ (did_call call.Own reply.Own _ c.in_ok-own.ensures.called) (does_give _ _ _)
