use Rattle.agent_core.specs.Metrics.{milli_sample}
use Rattle.agent_core.proofs.samples.push_millis.Goals as goal

pub returns : goal.returns
unfolding milli_sample
returns c = c.in_ok-write.ensures.bytes
