use Rattle.std.proofs.Common.{◌≡◌, ◌≤◌, min, length, vec_capacity}
use Rattle.indexmap.specs.IndexMap.{keys, values}
use Rattle.gossip_core.proofs.PendingLemmas.{IsIssuing}
use Rattle.gossip_core.proofs.pending.issue_first.Given as goal

abbrev pub invariant-changes : goal.invariant-changes
invariant-changes l = record {
  keys : keys l.pending ≡ keys l.fn.pending;
  roomy : min l.fn.at_most (length (values l.fn.pending)) ≤ vec_capacity l.changes;
  issuing : IsIssuing l.fn.target l.fn.at_most (values l.fn.pending) l.changes.items l.index (values l.pending);
}
