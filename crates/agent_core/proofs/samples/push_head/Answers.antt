use Rattle.agent_core.specs.Metrics.{head}
use Rattle.agent_core.proofs.samples.push_head.Goals as goal

pub returns : goal.returns
unfolding head
returns c = c.in_ok-write.ensures.bytes
