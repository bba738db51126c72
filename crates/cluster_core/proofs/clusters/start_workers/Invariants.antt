use Rattle.std.proofs.Common.{◌≡◌, ◌++◌, All, length, map}
use Rattle.std.specs.Arc.{arc_value}
use Rattle.std.specs.Vec.Iter.{into_iter_items, into_iter_len}
use Rattle.locked_node.specs.Passes.{Fits}
use Rattle.cluster_core.specs.Clusters.{given_to}
use Rattle.cluster_core.proofs.clusters.start_workers.Given as goal

-- the passes that are left fit the node, the others were given out in their order, and each worker is to give back one that fits
abbrev pub invariant-loop-pass : goal.invariant-loop-pass
invariant-loop-pass g l = record {
  length_is : into_iter_len l.pass-iterator ≡ length (into_iter_items l.pass-iterator);
  fits : All (Fits (arc_value l.node)) (into_iter_items l.pass-iterator);
  returned : All (λ w. w.promise.node.value ≡ arc_value l.node) l.workers.items;
  given : map given_to l.workers.items ++ into_iter_items l.pass-iterator ≡ l.fn.passes.items;
}
