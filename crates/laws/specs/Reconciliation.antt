-- Two nodes that tell each other all that they hold, until both hold the same. That three exchanges are enough is this project's own.
use Rattle.std.specs.Prelude.{◌≡◌, ◌≢◌, ℕ, List, ◌++◌, map, Ok}
use Rattle.change_core.specs.declared.changes.Sourced.{Sourced}
use Rattle.change_core.specs.Members.{greatest}
use Rattle.node_core.specs.declared.events.Taken.{Taken}
use Rattle.node_core.specs.Agreement.{Agree}
use Rattle.node_core.specs.Invariant.{IsNode, IsSeen}
use Rattle.node_core.specs.Node.{Node, Seen}
use Rattle.change_core.specs.Change.{change_of}
use Rattle.node_core.specs.Taking.{TakeStep}

-- the taker takes all that the giver holds, as a full synchronisation sends it, from any sources, and takes it whole
pub record TakesAllOf {H : Type 0} (taker giver new : Node H) : Type 0 where
  pub given : List Sourced
  pub moment : ℕ
  pub taken : Taken
  pub all : map change_of given ≡ giver.members
  pub step : TakeStep taker given moment (Ok taken) new

-- a takes all that b holds, then b all that a holds, and a again all that b holds: from a and b they become these
pub record Reconcile {H : Type 0} (a b a' b' : Node H) : Type 0 where
  pub between : Node H
  pub first : TakesAllOf a b between
  pub second : TakesAllOf b between b'
  pub third : TakesAllOf between b' a'

-- both hold the same: of every address but their own the greatest of what they held. Where b refutes nothing, they do so before the third exchange
pub record AreReconciled {H : Type 0} (a b a' b' : Node H) (they : Reconcile a b a' b') : Type 0 where
  pub members_same : a'.members ≡ b'.members
  pub of_others : (x : ℕ) → x ≢ a.own → x ≢ b.own → greatest a'.members x ≡ greatest (a.members ++ b.members) x
  pub two_suffice : they.second.taken.refuted ≡ 0 → they.between.members ≡ b'.members

-- so it is of any two nodes, as they are between two calls, with different addresses
abbrev pub NodesReconcile : Type 0 → Type 0
NodesReconcile H =
    (a b a' b' : Node H) (they : Reconcile a b a' b') → IsNode a → IsNode b → a.own ≢ b.own → AreReconciled a b a' b' they

-- and such nodes agree, if they have one hash and one number of replicas: the same members, digest, servers, points and owners of every key
abbrev pub ReconciledAgree : {H : Type 0} → (H → List ℕ → ℕ) → Type 0
ReconciledAgree {H} hash_of =
    (a b a' b' : Seen H) → IsNode a.node → IsNode b.node → a.node.own ≢ b.node.own → Reconcile a.node b.node a'.node b'.node
    → IsSeen hash_of a' → IsSeen hash_of b' → a.node.hash ≡ b.node.hash → a.node.config.replicas ≡ b.node.config.replicas → Agree hash_of a' b'
