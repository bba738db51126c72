use Rattle.locked_node.specs.Passes.{Fits}
use Rattle.core_tests.proofs.locked.tests.hear_some.Given as goal

abbrev pub invariant-loop-i : goal.invariant-loop-i
invariant-loop-i g l = Fits l.shared l.pass
