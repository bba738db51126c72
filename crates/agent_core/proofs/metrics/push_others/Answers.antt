use Rattle.std.proofs.Common.{string_bytes}
use Rattle.agent_core.proofs.Growing.{grown}
use Rattle.agent_core.proofs.metrics.push_others.Goals as goal

pub returns : goal.returns
returns c =
    let text = string_bytes c.args.text.now in
    let a0 = c.in_ok-push_counter.ensures in
    let a1 = grown text _ _ _ _ a0 c.in_ok-push_counter-2.ensures in
    grown text _ _ _ _ a1 c.in_ok-push_counter-3.ensures
