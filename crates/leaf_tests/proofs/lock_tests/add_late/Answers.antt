use Rattle.std.proofs.Common.{rules, refl}
use Rattle.turn_lock.specs.Passes.{opening_of, number_of, seen}
use Rattle.leaf_tests.proofs.Tally.{one_more}
use Rattle.leaf_tests.proofs.lock_tests.add_late.Goals as goal

pub leave-requires : goal.leave-requires
leave-requires g c = (search rules, (refl, one_more (seen c.args.pass) (opening_of c.args.lock.now).numbers.items _ _ (number_of c.args.pass) _ c.requires.tally c.add-added.ensures))
