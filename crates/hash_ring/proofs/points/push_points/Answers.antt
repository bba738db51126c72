use Rattle.std.proofs.Common.{arith, ◌∙◌}
use Rattle.hash_ring.specs.declared.points.Point.{Point}
use Rattle.hash_ring.proofs.Edits.{points_of_more, small_more}
use Rattle.hash_ring.proofs.points.push_points.Goals as goal

pub loop-index-preserved : goal.loop-index-preserved
loop-index-preserved g c =
    let before = c.loop-index.points.items in
    let point : Point = record { hash = c.point_hash.result; server = c.args.server } in
    record {
      text = c.point_hash.ensures.same ∙ c.loop-index.invariant.text;
      pushed = points_of_more (g.H.PointHash.hash_of c.args.hash) c.args.server c.loop-index.index c.point_hash.result c.args.points.now.items before _ c.loop-index.text.bytes c.loop-index.invariant.text c.point_hash.ensures.hash c.loop-index.invariant.pushed c.push_reserved.ensures.items;
      small = λ h. small_more before point _ c.push_reserved.ensures.items c.point_hash.type_inv (c.loop-index.invariant.small h);
      len = omega (arith, c.push_reserved.ensures.len, c.loop-index.invariant.len);
      capacity = omega (arith, c.push_reserved.ensures.capacity, c.loop-index.invariant.capacity);
    }
