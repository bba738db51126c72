use Rattle.locked_node.specs.Passes.{Fits}
use Rattle.core_tests.proofs.locked.probing.check_rounds.Given as goal

abbrev pub invariant-loop-i : goal.invariant-loop-i
invariant-loop-i g l = Fits l.node l.pass
