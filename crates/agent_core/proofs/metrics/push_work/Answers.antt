use Rattle.std.proofs.Common.{string_bytes}
use Rattle.agent_core.proofs.Growing.{grown}
use Rattle.agent_core.proofs.metrics.push_work.Goals as goal

pub returns : goal.returns
returns c =
    let text = string_bytes c.args.text.now in
    let a0 = c.in_ok-push_requests.ensures in
    let a1 = grown text _ _ _ _ a0 c.in_ok-push_answers.ensures in
    let a2 = grown text _ _ _ _ a1 c.in_ok-push_histograms.ensures in
    let a3 = grown text _ _ _ _ a2 c.in_ok-push_rounds.ensures in
    let a4 = grown text _ _ _ _ a3 c.in_ok-push_changes.ensures in
    grown text _ _ _ _ a4 c.in_ok-push_others.ensures
