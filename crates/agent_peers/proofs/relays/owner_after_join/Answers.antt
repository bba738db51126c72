use Rattle.std.proofs.Common.{rules, inl, inr, Ok}
use Rattle.std.specs.Prelude.{◌≢◌, ◌⊎◌}
use Rattle.change_core.specs.Status.{IsServing}
use Rattle.agent_peers.proofs.Relaying.{chosen_later, own_quiet, quiet_both}
use Rattle.agent_peers.proofs.relays.owner_after_join.Goals as goal
use Rattle.agent_peers.proofs.relays.owner_after_join.Goals.{else-eq-via-then-eq+else-serving, else-eq-via-else-eq}

pub returns-then-serving-clause-quiet : goal.returns-then-serving-clause-quiet
returns-then-serving-clause-quiet g c =
    quiet_both c.args.caller.now _ _ c.in_ok-owner.ensures.quiet (own_quiet (Ok c.in-Ok.own) _ _ c.in-Ok.ensures.node c.in-Ok.ensures.did)

pub returns-clause-chosen : goal.returns-clause-chosen
returns-clause-chosen g c =
    let may : (c.in_ok-owner.owner ≢ c.args.request.now.source) ⊎ ¬ (IsServing c.in-Ok.own.status) = elim c.else-eq.branch [
      | else-eq-via-then-eq+else-serving w ↦ (let left : ¬ (IsServing c.in-Ok.own.status) = search rules in inr left)
      | else-eq-via-else-eq w ↦ (let other : c.in_ok-owner.owner ≢ c.args.request.now.source = search rules in inl other)
    ] in
    chosen_later c.args.request.now c.in_ok-owner.owner c.in-Ok.own c.args.caller.now _ _ c.in_ok-owner.ensures.named c.in-Ok.ensures.node c.in-Ok.ensures.did.makes may

pub returns-clause-quiet : goal.returns-clause-quiet
returns-clause-quiet g c =
    quiet_both c.args.caller.now _ _ c.in_ok-owner.ensures.quiet (own_quiet (Ok c.in-Ok.own) _ _ c.in-Ok.ensures.node c.in-Ok.ensures.did)
