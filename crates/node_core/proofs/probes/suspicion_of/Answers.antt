use Rattle.std.proofs.Common.{◌≡◌, rules, sym, ◌∙◌}
use Rattle.change_core.specs.declared.statuses.Status.TheVariants.{Alive}
use Rattle.node_core.proofs.Suspecting.{suspicion-entry}
use Rattle.node_core.proofs.probes.suspicion_of.Goals as goal

pub returns : goal.returns
returns c =
    let alive : c.in_ok-held.held.status ≡ Alive = search rules in
    suspicion-entry c.args.members.now.members c.args.target c.in_ok-held.held (sym c.get.ensures ∙ c.in_ok-held.was) alive
