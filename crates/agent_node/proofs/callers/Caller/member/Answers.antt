use Rattle.node_core.specs.declared.events.Event.TheVariants as call
use Rattle.node_core.specs.declared.events.Reply.TheVariants as reply
use Rattle.peer_core.specs.Parts.{Calls}
use Rattle.agent_node.proofs.Called.{as_seen, called_once}
use Rattle.agent_node.proofs.callers.Caller.member.Goals as goal

pub returns-clause-did : goal.returns-clause-did
returns-clause-did g c =
    as_seen (Calls (call.Member c.args.address) reply.Member) c.let_in.result c.args.self.now _ _ _ _ c.self.view_is c.deref.ensures
    (called_once _ _ _ _ (call.Member c.args.address) reply.Member c.member.result c.let_in.result c.member.ensures.called c.member.ensures.refused c.let_in.ensures)
