use Rattle.std.proofs.Common.{◌≡◌}
use Rattle.change_core.specs.Address.{address_text}
use Rattle.hash_ring.specs.Points.{least, clockwise, point}
use Rattle.hash_ring.proofs.points.distance.Given as goal

-- the least of the distances so far
abbrev pub invariant-loop-index : goal.invariant-loop-index
invariant-loop-index g l = record {
  text : l.text.bytes ≡ address_text l.fn.server;
  least : l.least ≡ least (λ i. clockwise l.from (point (g.H.PointHash.hash_of l.hash) l.fn.server i)) l.index;
}
