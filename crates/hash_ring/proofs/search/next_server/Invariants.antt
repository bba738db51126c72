use Rattle.std.proofs.Common.{◌++◌, take}
use Rattle.hash_ring.proofs.Next.{IsLeast}
use Rattle.hash_ring.proofs.search.next_server.Given as goal

-- the nearest of those so far
abbrev pub invariant-loop-point : goal.invariant-loop-point
invariant-loop-point l = record {
  least : IsLeast l.hash (l.points ++ l.late) (l.points ++ take l.point-index l.late) l.nearest;
}
