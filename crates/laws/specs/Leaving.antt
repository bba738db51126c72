-- A member that has left, as other nodes of a world hold it.
use Rattle.std.specs.Prelude.{◌≡◌, ◌⊎◌, ◌≤◌, ℕ, Some, List}
use Rattle.change_core.specs.declared.changes.Change.{Change}
use Rattle.change_core.specs.declared.statuses.Status.{Status}
use Rattle.change_core.specs.declared.statuses.Status.TheVariants.{Leave, Tombstone}
use Rattle.change_core.specs.Ascending.{In}
use Rattle.change_core.specs.Members.{greatest, serving}
use Rattle.node_core.specs.Node.{Node}
use Rattle.node_core.specs.Step.{owners_by}
use Rattle.node_core.specs.World.{WorldEvent, MayAllHappen, world_after, nothing}
use Rattle.laws.specs.Running.{RunsOn}

-- a member that left, or that is a tombstone
abbrev pub IsGone : Status → Type 0
IsGone s = (s ≡ Leave) ⊎ (s ≡ Tombstone)

-- the address has asserted no incarnation past this one
abbrev pub AssertsNoneAfter : List Change → ℕ → ℕ → Type 0
AssertsNoneAfter asserted a incarnation = (c : Change) → In c asserted → c.address ≡ a → c.incarnation ≤ incarnation

-- a node holds an address as gone at an incarnation, and counts it neither among its servers nor among the owners of any key
pub record HoldsAsGone {H : Type 0} (hash_of : H → List ℕ → ℕ) (node : Node H) (a incarnation : ℕ) : Type 0 where
  pub entry : Change
  pub held : greatest node.members a ≡ Some entry
  pub same : entry.incarnation ≡ incarnation
  pub gone : IsGone entry.status
  pub not_serving : In a (serving node.members) → ⊥
  pub no_owner : (key : List ℕ) → In a (owners_by hash_of node key) → ⊥

-- in every world: a node that holds an address as gone holds it as gone at that incarnation after any events through which the node itself runs on,
-- until the address has asserted a later incarnation
abbrev pub LeaversStayOut : {H : Type 0} → (H → List ℕ → ℕ) → Type 0
LeaversStayOut {H} hash_of =
    (past events : List (WorldEvent H)) (b a : ℕ) (old new : Node H) (left : Change)
    → MayAllHappen hash_of nothing past → MayAllHappen hash_of (world_after nothing past) events → RunsOn b events
    → (world_after nothing past).nodes b ≡ Some old → (world_after (world_after nothing past) events).nodes b ≡ Some new
    → greatest old.members a ≡ Some left → IsGone left.status
    → AssertsNoneAfter (world_after (world_after nothing past) events).asserted a left.incarnation
    → HoldsAsGone hash_of new a left.incarnation
