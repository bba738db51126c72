use Rattle.locked_node.specs.Passes.{Fits}
use Rattle.core_tests.proofs.locked.nodes.check_calls.Given as goal

abbrev pub invariant-loop-place : goal.invariant-loop-place
invariant-loop-place g l = Fits l.shared l.pass
