use Rattle.std.proofs.Common.{string_bytes}
use Rattle.agent_core.specs.Metrics.{sum_samples}
use Rattle.agent_core.proofs.Growing.{grown}
use Rattle.agent_core.proofs.samples.push_times.Goals as goal

pub returns : goal.returns
unfolding sum_samples
returns c =
    let text = string_bytes c.args.text.now in
    let a0 = c.in_ok-push_head.ensures in
    let a1 = grown text _ _ _ _ a0 c.in_ok-push_buckets.ensures in
    grown text _ _ _ _ a1 (rw c.within-count.ensures at c.in_ok-write.ensures.bytes)
