use Rattle.std.proofs.Common.{◌≡◌, ◌+◌, ◌-◌, ◌≤◌, ◌++◌, take, drop, length, vec_capacity}
use Rattle.hash_ring.proofs.Runs.{others}
use Rattle.hash_ring.proofs.points.take_points.Given as goal

-- those kept so far, and the others among the rest, are all the others
abbrev pub invariant-loop-at : goal.invariant-loop-at
invariant-loop-at l = record {
  whole : take l.kept l.points.items ++ others l.server (drop l.at l.points.items) ≡ others l.server l.fn.points.items;
  kept : l.kept ≤ l.at;
  at : l.at ≤ length l.points.items + 1;
  capacity : vec_capacity l.points ≡ vec_capacity l.fn.points;
}

abbrev pub decreases-loop-at : goal.decreases-loop-at
decreases-loop-at l = length l.points.items + 1 - l.at
