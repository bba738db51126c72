use Rattle.node_core.proofs.Batch.{HasTaken}
use Rattle.node_core.proofs.node.NodeState.take_all.Given as goal

-- the changes before `place` are taken
abbrev pub invariant-loop-place : goal.invariant-loop-place
invariant-loop-place g l = HasTaken l.fn.self.node l.changes l.place l.applied l.refuted l.self.node
