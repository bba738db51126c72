use Rattle.std.proofs.Common.{◌≡◌, ◌+◌, ◌≤◌, ◌++◌, vec_len, vec_capacity}
use Rattle.change_core.specs.Address.{address_text}
use Rattle.hash_ring.specs.Points.{points_of, AreSmall}
use Rattle.hash_ring.proofs.points.push_points.Given as goal

abbrev pub invariant-loop-index : goal.invariant-loop-index
invariant-loop-index g l = record {
  text : l.text.bytes ≡ address_text l.server;
  pushed : l.points.items ≡ l.fn.points.items ++ points_of (g.H.PointHash.hash_of l.hash) l.index l.server;
  small : AreSmall l.fn.points.items → AreSmall l.points.items;
  len : vec_len l.points ≡ vec_len l.fn.points + l.index;
  capacity : vec_capacity l.fn.points ≤ vec_capacity l.points;
}
