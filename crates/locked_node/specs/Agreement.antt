-- Nodes that threads shared agree if their logs hold the same changes, whatever the threads did.
use Rattle.std.specs.Prelude.{◌≡◌, ℕ, List}
use Rattle.change_core.specs.declared.changes.Change.{Change}
use Rattle.change_core.specs.Members.{HaveSameChanges}
use Rattle.node_core.specs.Agreement.{Agree}
use Rattle.node_core.specs.Node.{Seen}
use Rattle.locked_node.specs.declared.node.LockedNode.{LockedNode}
use Rattle.locked_node.specs.History.{log_of}
use Rattle.locked_node.specs.Passes.{NodePass, IsClosed, opening_of}

module _ {H : Type 0} where
  -- the log of the history that a closed node went through
  abbrev pub log_closed : {hash_of : H → List ℕ → ℕ} (locked : LockedNode H) (passes : List (NodePass H)) (now : Seen H) → IsClosed hash_of locked passes now → List Change
  log_closed locked passes now closed = log_of (opening_of locked).node closed.history

-- two closed nodes that were made with one hash and one number of replicas
abbrev pub ClosedAgree : {H : Type 0} → (H → List ℕ → ℕ) → Type 0
ClosedAgree {H} hash_of =
    (x y : LockedNode H) (xs ys : List (NodePass H)) (a b : Seen H) (p : IsClosed hash_of x xs a) (q : IsClosed hash_of y ys b)
    → HaveSameChanges (log_closed x xs a p) (log_closed y ys b q)
    → (opening_of x).node.hash ≡ (opening_of y).node.hash → (opening_of x).node.config.replicas ≡ (opening_of y).node.config.replicas
    → Agree hash_of a b
