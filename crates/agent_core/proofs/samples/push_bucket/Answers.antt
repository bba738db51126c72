use Rattle.agent_core.specs.Metrics.{bucket_sample}
use Rattle.agent_core.proofs.samples.push_bucket.Goals as goal

pub returns : goal.returns
unfolding bucket_sample
returns c = rw c.within-count.ensures at c.in_ok-write.ensures.bytes
