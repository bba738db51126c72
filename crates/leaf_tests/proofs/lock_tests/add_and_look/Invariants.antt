use Rattle.turn_lock.specs.Passes.{IsOutside}
use Rattle.leaf_tests.proofs.lock_tests.add_and_look.Given as goal

abbrev pub invariant-adds : goal.invariant-adds
invariant-adds g l = IsOutside l.lock l.pass

abbrev pub invariant-looks : goal.invariant-looks
invariant-looks g l = IsOutside l.lock l.pass
