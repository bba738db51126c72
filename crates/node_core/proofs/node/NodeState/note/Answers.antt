use Rattle.std.proofs.Common.{sym}
use Rattle.node_core.proofs.Answering.{AreParts-noted}
use Rattle.node_core.proofs.node.NodeState.note.Goals as goal

pub invariant_of-self : goal.invariant_of-self
invariant_of-self g c =
    AreParts-noted g.H.PointHash.hash_of _ c.self.invariant c.args.number c.args.helper c.args.said c.in-Ok.field-0 c.helper_said.new.self
    (sym c.in-Ok.ensures.answer) c.in-Ok.ensures.ok
