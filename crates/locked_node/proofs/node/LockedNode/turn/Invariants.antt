use Rattle.locked_node.specs.History.{entry_of}
use Rattle.locked_node.proofs.node.LockedNode.turn.Given as goal

abbrev pub ghost-leave : goal.ghost-leave
ghost-leave g a = entry_of (g.A.LockedCall.call a._asked.now) (g.A.LockedCall.answer a._reply.now) a.held.node.node
