use Rattle.node_core.specs.declared.events.Event.TheVariants as call
use Rattle.node_core.specs.declared.events.Reply.TheVariants as reply
use Rattle.peer_core.specs.Parts.{Calls}
use Rattle.agent_node.proofs.Called.{as_seen, called_once}
use Rattle.agent_node.proofs.callers.Caller.own.Goals as goal

pub returns-clause-did : goal.returns-clause-did
returns-clause-did g c =
    as_seen (Calls call.Own reply.Own) c.let_in.result c.args.self.now _ _ _ _ c.self.view_is c.deref.ensures
    (called_once _ _ _ _ call.Own reply.Own c.own.result c.let_in.result c.own.ensures.called c.own.ensures.refused c.let_in.ensures)
