use Rattle.std.proofs.Common.{◌≡◌, ◌∙◌, ◌<◌, ℕ, List, None, Some, length, subst, sym}
use Rattle.std.specs.List.{position}
use Rattle.agent_core.specs.Shares.{is_for}
use Rattle.agent_core.proofs.Sharing.{removed_at, removed_none}
use Rattle.agent_core.proofs.shares.remove_one.Goals as goal

pub returns-in-Some-clause-rest : goal.returns-in-Some-clause-rest
returns-in-Some-clause-rest c =
    let items = c.args.waiting.now.items in
    let place = c.in-Some.place in
    let found = subst (λ (ws : List ℕ). position (is_for c.args.owner) ws ≡ Some place) c.deref.ensures.value (sym c.in-Some.ensures.found) in
    let within = subst (λ (ws : List ℕ). place < length ws) c.deref.ensures.value c.in-Some.ensures.within in
    c.remove.ensures.items ∙ removed_at c.args.owner items place found within

pub returns-in_default-clause-rest : goal.returns-in_default-clause-rest
returns-in_default-clause-rest c =
    let none = sym c.first_for-place.ensures.found ∙ c.in_default.is in
    removed_none c.args.owner c.args.waiting.now.items (subst (λ (ws : List ℕ). position (is_for c.args.owner) ws ≡ None) c.deref.ensures.value none)
