-- Locked nodes that were closed, as shared nodes; and what one pass reads of a member.
use Rattle.std.specs.Prelude.{◌≡◌, ℕ, Option, Some, List, ◌∷◌, ◌++◌}
use Rattle.change_core.specs.declared.changes.Entry.{Entry}
use Rattle.node_core.specs.Invariant.{IsSeen}
use Rattle.node_core.specs.Node.{Node, Seen}
use Rattle.turn_lock.specs.Passes as lock
use Rattle.locked_node.specs.declared.node.LockedNode.{LockedNode}
use Rattle.locked_node.specs.History.{CallEntry}
use Rattle.locked_node.specs.Passes.{NodePass, HasSeenLegal, IsClosed, opening_of}
use Rattle.laws.specs.Reading.{StillThere, read}
use Rattle.laws.specs.Sharing.{Birth, SharedNode, created}

-- a locked node that was closed, and was made with a node that had just begun
pub record ClosedNode {H : Type 0} (hash_of : H → List ℕ → ℕ) : Type 0 where
  pub locked : LockedNode H
  pub passes : List (NodePass H)
  pub node : Seen H
  pub closed : IsClosed hash_of locked passes node
  pub birth : Birth H
  pub just_begun : (opening_of locked).node ≡ created birth

-- a closed node is a shared node, by the one history that closing gives
abbrev pub ClosedNodesAreShared : {H : Type 0} → (H → List ℕ → ℕ) → Type 0
ClosedNodesAreShared {H} hash_of =
    (c : ClosedNode hash_of) → (n : SharedNode hash_of) × (n.birth ≡ c.birth) × (n.history ≡ c.closed.history) × (n.now ≡ c.node.node)

-- where one of the calls of a pass reads an entry of an address, each later one of them reads an entry that is no older
abbrev pub PassesReadForward : {H : Type 0} → (H → List ℕ → ℕ) → Type 0
PassesReadForward {H} hash_of =
    (locked : LockedNode H) (p : NodePass H) (first between rest : List (CallEntry H)) (a : ℕ) (earlier : Entry) (found : Option Entry) (x y : Node H)
    → IsSeen hash_of (opening_of locked) → HasSeenLegal hash_of locked p
    → lock.calls_of p ≡ first ++ read a (Some earlier) x ∷ (between ++ read a found y ∷ rest)
    → StillThere a earlier found
