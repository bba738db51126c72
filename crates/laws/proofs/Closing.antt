-- A closed node is a shared node; and what one pass reads stands in the history that it has seen.
use Rattle.std.proofs.Common.{◌≡◌, ℕ, List, ◌∷◌, ◌++◌, Some, refl, ◌∙◌, ap, subst}
use Rattle.node_core.specs.Node.{Node}
use Rattle.turn_lock.specs.History.{turn}
use Rattle.turn_lock.specs.Passes as lock
use Rattle.locked_node.specs.History.{History, LegalHistory}
use Rattle.locked_node.specs.Passes.{opening_of}
use Rattle.laws.specs.Closing.{ClosedNodesAreShared, PassesReadForward}
use Rattle.laws.specs.Reading.{read}
use Rattle.laws.proofs.Reading.{histories_read_forward, turn_in}

module _ {H : Type 0} (hash_of : H → List ℕ → ℕ) where
  pub closed_nodes_are_shared : ClosedNodesAreShared hash_of
  closed_nodes_are_shared c = (
    record {
      birth = c.birth;
      history = c.closed.history;
      now = c.node.node;
      legal = subst (λ (n : Node H). LegalHistory hash_of n c.closed.history c.node.node) c.just_begun c.closed.legal;
    },
    refl,
    refl,
    refl,
  )

  pub passes_read_forward : PassesReadForward hash_of
  passes_read_forward locked p first between rest a earlier found x y opened seen calls =
      let n : ℕ = lock.number_of p in
      let one = turn_in n (lock.seen p) first (read a (Some earlier) x) (between ++ read a found y ∷ rest) calls in
      let two = turn_in n one.after between (read a found y) rest one.made_after in
      let parts : lock.seen p ≡ one.before ++ turn n (read a (Some earlier) x) ∷ (two.before ++ turn n (read a found y) ∷ two.after) =
      one.parts ∙ ap (λ (l : History H). one.before ++ turn n (read a (Some earlier) x) ∷ l) two.parts in
      histories_read_forward hash_of (opening_of locked).node seen.0 one.before two.before two.after n n a earlier found x y opened.kept
      (subst (λ (l : History H). LegalHistory hash_of (opening_of locked).node l seen.0) parts seen.1)
