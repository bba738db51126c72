use Rattle.std.proofs.Common.{◌≡◌, take, arith, subst}
use Rattle.std.proofs.lemmas.Grind.{common_steps}
use Rattle.change_core.specs.Ascending.{In}
use Rattle.hash_ring.proofs.PointOrder.{point_exact}
use Rattle.hash_ring.proofs.points.merge_points.Goals as goal

pub merge-requires-clause-exact : goal.merge-requires-clause-exact
merge-requires-clause-exact c = point_exact

pub merge-requires-clause-apart : goal.merge-requires-clause-apart
merge-requires-clause-apart c =
    let prefix : take c.len-count.result c.deref_mut.result.now ≡ c.args.points.now.items = grind (arith, common_steps) in
    λ x h k. c.requires.apart x (subst (In x) prefix h) k
