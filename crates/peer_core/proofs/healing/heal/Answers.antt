use Rattle.std.proofs.Common.{Option, ap, rules}
use Rattle.peer_core.specs.declared.healing.Draws.{Draws}
use Rattle.peer_core.specs.Healing.{Heals}
use Rattle.peer_core.proofs.Healed.{heals_as}
use Rattle.peer_core.proofs.Exchanges.{sent_drawn_over}
use Rattle.peer_core.proofs.healing.heal.Goals as goal

pub returns-clause-healed : goal.returns-clause-healed
returns-clause-healed g c =
    heals_as g.L.Link.may_answer c.args.now _ _ _ _ (ap (λ (h : Heals). h.hosts) c.healing.view_is) (ap (λ (o : Option Draws × Heals). o.0) c.after_round-draws.ensures) c.heal_by.ensures.did

pub returns-clause-sent : goal.returns-clause-sent
returns-clause-sent g c =
    sent_drawn_over g.L.Link.went (ap (λ (h : Heals). h.hosts) c.healing.view_is) (ap (λ (o : Option Draws × Heals). o.0) c.after_round-draws.ensures)
    c.new-peers.ensures.link (search rules) c.heal_by.ensures.sent
