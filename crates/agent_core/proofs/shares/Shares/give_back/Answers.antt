use Rattle.std.proofs.Common.{◌≤◌, ℕ, List, subst, sym}
use Rattle.agent_core.specs.Shares.{IsShared}
use Rattle.agent_core.proofs.Sharing.{shared_without}
use Rattle.agent_core.proofs.shares.Shares.give_back.Goals as goal

pub invariant_of-self : goal.invariant_of-self
invariant_of-self c = (
  subst (λ (ws : List ℕ). IsShared ws) (sym c.remove_one.ensures.rest) (shared_without c.args.owner c.self.inside.owners.items c.self.invariant.0),
  subst (λ (n : ℕ). 128 ≤ n) (sym c.remove_one.ensures.capacity) c.self.invariant.1,
)
