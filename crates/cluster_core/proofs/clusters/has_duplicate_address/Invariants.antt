use Rattle.std.proofs.Common.{ℕ, ◌+◌, ◌<◌, drop, slice_index_or}
use Rattle.cluster_core.specs.Clusters.{NoneHas, address_in}
use Rattle.cluster_core.proofs.clusters.has_duplicate_address.Given as goal

-- those so far stand apart from all later ones
abbrev pub invariant-loop-i : goal.invariant-loop-i
invariant-loop-i g l = (k : ℕ) (d : _) → k < l.i → NoneHas (drop (k + 1) l.nodes) (address_in (slice_index_or l.nodes k d))
