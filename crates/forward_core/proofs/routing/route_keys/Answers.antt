use Rattle.std.proofs.Common.{◌∙◌, refl, sym}
use Rattle.forward_core.proofs.RouteLemmas.{diverged, route-nobody}
use Rattle.forward_core.proofs.routing.route_keys.Goals as goal

pub returns-then-ne-clause-routed : goal.returns-then-ne-clause-routed
returns-then-ne-clause-routed g c =
    diverged g.H.PointHash.hash_of c.args.view.now c.args.keys.now c.in-Some.others.now c.in-Some.first.now c.key-item.result c.loop-key.key-index
    (sym c.as_slice.ensures.items ∙ c.in-Some.ensures.cases.0)
    c.loop-key-test.true
    c.key-item.is
    (rw (← c.owner_of.ensures, ← c.owner_of-owner.ensures) (sym c.ne.ensures ∙ c.if-ne.true))

pub returns-clause-nobody : goal.returns-clause-nobody
returns-clause-nobody g c =
    route-nobody g.H.PointHash.hash_of c.args.view.now c.in-Some.first.now c.owner_of-owner.result c.own.result c.route.result c.owner_of-owner.ensures c.route.ensures

pub returns-then-ne-clause-diverged : goal.returns-then-ne-clause-diverged
returns-then-ne-clause-diverged g c = (λ e. returns-then-ne-clause-routed g c, λ d. refl)
