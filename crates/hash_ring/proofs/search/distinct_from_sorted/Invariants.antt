use Rattle.std.proofs.Common.{◌≡◌, ◌≤◌, ◌++◌, length, take, drop, vec_capacity}
use Rattle.hash_ring.specs.Steps.{firsts, IsSorted}
use Rattle.hash_ring.proofs.search.distinct_from_sorted.Given as goal

-- those named and those to be named are the same as at the start, and those named are sorted too
abbrev pub invariant-loop-point : goal.invariant-loop-point
invariant-loop-point l = record {
  named : take l.count (l.named.items ++ firsts l.named.items (drop l.point-index l.points)) ≡ take l.count (l.fn.named.items ++ firsts l.fn.named.items l.points);
  len : length l.named.items ≤ l.count;
  capacity : vec_capacity l.named ≡ vec_capacity l.fn.named;
  sorted : IsSorted l.named.items l.sorted.items;
  sorted_capacity : vec_capacity l.sorted ≡ vec_capacity l.fn.sorted;
}
