use Rattle.std.proofs.Common.{◌≡◌, ◌++◌, List, length}
use Rattle.std.specs.List.{AllZip}
use Rattle.std.specs.Vec.Iter.{into_iter_items, into_iter_len}
use Rattle.cluster_core.specs.Clusters.{IsOfSeat}
use Rattle.cluster_core.proofs.clusters.end_all.Given as goal

-- each node so far is what closing that of its seat gave
abbrev pub invariant-closed : goal.invariant-closed
invariant-closed g l = record {
  length_is : into_iter_len l.seat-iterator ≡ length (into_iter_items l.seat-iterator);
  so_far : (done : List _) × (l.fn.seats.items ≡ done ++ into_iter_items l.seat-iterator) × AllZip (IsOfSeat g.H.PointHash.hash_of) done l.nodes.items;
}
