use Rattle.agent_core.proofs.Growing.{grown}
use Rattle.agent_core.proofs.samples.push_counter.Goals as goal

pub returns : goal.returns
returns c = grown _ _ _ _ _ c.in_ok-push_head.ensures c.in_ok-push_samples.ensures
