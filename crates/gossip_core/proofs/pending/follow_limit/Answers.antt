use Rattle.std.proofs.Common.{sym, arith}
use Rattle.indexmap.specs.IndexMap.{values}
use Rattle.gossip_core.proofs.PendingLemmas.{below-unspent}
use Rattle.gossip_core.proofs.pending.follow_limit.Goals as goal

pub returns-else-limit-before-clause-below : goal.returns-else-limit-before-clause-below
returns-else-limit-before-clause-below c =
    sym (below-unspent c.args.before c.args.limit (values c.args.pending.now) (omega (arith, c.if-limit-before.false)) c.requires.unspent)
