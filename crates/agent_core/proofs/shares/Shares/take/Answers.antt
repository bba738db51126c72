use Rattle.std.proofs.Common.{◌≡◌, ◌≤◌, ℕ, List, true, subst, sym}
use Rattle.agent_core.specs.Shares.{IsShared, OneSparesOthers, may_wait}
use Rattle.agent_core.proofs.Sharing.{shared_with, spared}
use Rattle.agent_core.proofs.shares.Shares.take.Goals as goal

pub returns-then-not-may_wait-clause-spared : goal.returns-then-not-may_wait-clause-spared
returns-then-not-may_wait-clause-spared c =
    subst (λ (ws : List ℕ). OneSparesOthers ws) c.self.view_is (spared c.self.inside.owners.items c.self.invariant.0)

pub invariant_of-self : goal.invariant_of-self
invariant_of-self c =
    let items = c.self.inside.owners.items in
    let may : may_wait c.args.owner items ≡ true =
    subst (λ (ws : List ℕ). may_wait c.args.owner ws ≡ true) c.as_slice.ensures.value (sym c.if-not-may_wait.ensures) in (
      subst (λ (ws : List ℕ). IsShared ws) (sym c.push_reserved.ensures.items) (shared_with c.args.owner items may c.self.invariant.0),
      subst (λ (n : ℕ). 128 ≤ n) (sym c.push_reserved.ensures.capacity) c.self.invariant.1,
    )
