use Rattle.std.proofs.Common.{subst, sym}
use Rattle.gossip_core.specs.Pending.{AllBelow}
use Rattle.gossip_core.proofs.PendingLemmas.{AllBelow-below}
use Rattle.gossip_core.proofs.gossip.Gossip.issue_for.Goals as goal

pub invariant_of-self-2 : goal.invariant_of-self-2
invariant_of-self-2 c =
    let limit = c.self.inside.limit in
    let kept = c.self.invariant in
    record {
      bounded = record {
        factor_within = kept.bounded.factor_within;
        limit_within = kept.bounded.limit_within;
        unspent = subst (AllBelow limit) (sym c.drop_spent.ensures.below) (AllBelow-below limit _);
      };
      by_address = c.drop_spent.ensures.by_address;
    }
