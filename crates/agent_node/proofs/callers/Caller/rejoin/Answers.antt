use Rattle.node_core.specs.declared.events.Event.TheVariants as call
use Rattle.node_core.specs.declared.events.Reply.TheVariants as reply
use Rattle.peer_core.specs.Parts.{Tries}
use Rattle.agent_node.proofs.Called.{as_seen, tried_once}
use Rattle.agent_node.proofs.callers.Caller.rejoin.Goals as goal

pub returns-clause-did : goal.returns-clause-did
returns-clause-did g c =
    as_seen (Tries call.Rejoin reply.Rejoin) c.allowed.result c.args.self.now _ _ _ _ c.self.view_is c.deref.ensures
    (tried_once _ _ _ _ call.Rejoin reply.Rejoin c.rejoin.result c.allowed.result c.rejoin.ensures.called c.rejoin.ensures.refused c.allowed.ensures)
