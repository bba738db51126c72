use Rattle.std.proofs.Common.{◌≢◌, ◌∙◌, refl, sym, true≢false}
use Rattle.forward_core.specs.declared.routes.Route.TheVariants.{Nobody}
use Rattle.forward_core.proofs.RouteLemmas.{has_owner}
use Rattle.forward_core.proofs.attempts.Attempt.ready.Goals as goal
use Rattle.forward_core.proofs.attempts.Attempt.ready.Goals.{in-Nobody, in_default}

pub returns-in-Some : goal.returns-in-Some
returns-in-Some g c =
    let somebody : c.in_ok-route.route ≢ Nobody =
    λ e. elim c.match-matches.branch [ in-Nobody w ↦ true≢false (sym w.matches-is ∙ c.if-matches.false) | in_default w ↦ w.in_default.not-Nobody e ]
    in (
      c.in-Some.ensures.0,
      c.in-Some.ensures.1,
      rw (← c.self.view_is) (has_owner g.H.PointHash.hash_of c.args.view.now c.self.inside.keys c.in_ok-route.route c.in_ok-route.ensures.routed somebody),
      refl,
    )
