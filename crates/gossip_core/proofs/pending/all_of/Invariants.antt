use Rattle.std.proofs.Common.{◌≡◌, ◌≤◌, map, take, length, vec_capacity}
use Rattle.indexmap.specs.IndexMap.{values}
use Rattle.gossip_core.proofs.pending.all_of.Given as goal

abbrev pub invariant-changes : goal.invariant-changes
invariant-changes l = record {
  roomy : length (values l.pending) ≤ vec_capacity l.changes;
  so_far : l.changes.items ≡ map (λ p. p.sourced) (take l.index (values l.pending));
}
