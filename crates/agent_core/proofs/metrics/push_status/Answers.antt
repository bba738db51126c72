use Rattle.agent_core.specs.Metrics.{status_sample}
use Rattle.agent_core.proofs.metrics.push_status.Goals as goal

pub returns : goal.returns
unfolding status_sample
returns c = rw c.count_of-count.ensures at c.in_ok-write.ensures.bytes
