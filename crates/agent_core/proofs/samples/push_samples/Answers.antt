use Rattle.std.proofs.Common.{arith}
use Rattle.agent_core.specs.Metrics.{labelled, sample}
use Rattle.agent_core.proofs.Growing.{grown_at}
use Rattle.agent_core.proofs.samples.push_samples.Goals as goal

pub loop-sample-preserved : goal.loop-sample-preserved
unfolding sample
loop-sample-preserved c =
    grown_at (labelled c.args.name.now) c.args.samples.now c.loop-sample.sample-index _ _ _ _ (omega arith) c.loop-sample.invariant c.in_ok-write.ensures.bytes
