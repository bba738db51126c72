use Rattle.std.proofs.Common.{◌≡◌, take}
use Rattle.std.specs.List.{flat_map}
use Rattle.hash_ring.specs.Points.{points_by, AreSmall}
use Rattle.hash_ring.proofs.builds.fill_all.Given as goal

-- the points of those so far
abbrev pub invariant-loop-server : goal.invariant-loop-server
invariant-loop-server g l = record {
  pushed : l.list.items ≡ flat_map (points_by (g.H.PointHash.hash_of l.hash) l.replicas) (take l.server-index l.servers);
  small : AreSmall l.list.items;
}
