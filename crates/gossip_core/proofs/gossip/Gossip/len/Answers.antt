use Rattle.std.proofs.Common.{subst}
use Rattle.indexmap.specs.IndexMap.{keys, values}
use Rattle.gossip_core.specs.Dissemination.{IsWhole}
use Rattle.gossip_core.proofs.PendingLemmas.{OnePerAddress-from_keys}
use Rattle.gossip_core.proofs.gossip.Gossip.len.Goals as goal

pub returns-clause-whole : goal.returns-clause-whole
returns-clause-whole c =
    let m = c.self.inside.pending in
    let kept = c.self.invariant in
    subst IsWhole c.self.view_is record {
      bounded = kept.bounded;
      one_each = OnePerAddress-from_keys (keys m) (values m) kept.by_address c.len.ensures.unique;
    }
