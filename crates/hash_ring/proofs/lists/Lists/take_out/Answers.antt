use Rattle.std.proofs.Common.{not, ap, ◌∙◌}
use Rattle.std.specs.List.{filter}
use Rattle.hash_ring.specs.declared.points.Point.{Point}
use Rattle.hash_ring.specs.Servers.{is_same}
use Rattle.hash_ring.proofs.lists.Lists.take_out.Goals as goal

pub returns-clause-points : goal.returns-clause-points
returns-clause-points c = (c.take_points.ensures.points ∙ ap (filter (λ (p : Point). not (is_same p.server c.args.address))) c.merge_late.ensures.merged, c.merge_late.ensures.none)
