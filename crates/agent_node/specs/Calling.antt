-- A thread of an agent as it calls the node.
use Rattle.std.specs.Prelude.{◌≡◌, ◌≢◌, ◌⊎◌, List, Ok, Err}
use Rattle.hash_ring.specs.declared.hash.Sha256Hash.{Sha256Hash}
use Rattle.node_core.specs.Viewing.{Viewed}
use Rattle.node_core.specs.declared.errors.NodeError.{NodeError}
use Rattle.turn_lock.specs.Passes.{left_of}
use Rattle.locked_node.specs.declared.node.LockedNode.{LockedNode}
use Rattle.locked_node.specs.Passes.{NodePass}
use Rattle.peer_core.specs.Acts.{OfActs, Just, Nothing, Makes, looked}
use Rattle.peer_core.specs.Errors.{error_of_node}
use Rattle.peer_core.specs.Parts.{Part, IsOfLock}

-- The node, and the pass by which a thread calls it.
pub record Calling : Type 0 where
  pub node : LockedNode Sha256Hash
  pub pass : NodePass Sha256Hash

-- The node, and its passes that no thread has.
pub record Unused : Type 0 where
  pub node : LockedNode Sha256Hash
  pub passes : List (NodePass Sha256Hash)

-- the node gave a view, or its error; or the lock refused the call
abbrev pub Looks : Part Sha256Hash (Viewed Sha256Hash)
Looks (Ok view) acts = Just (looked (Ok view)) acts
Looks (Err e) acts = (Nothing acts × IsOfLock e) ⊎ ((n : NodeError) × Just (looked (Err n)) acts × (e ≡ error_of_node n))

-- By its pass a thread made calls of its node that satisfy this.
pub record HasMade (So : OfActs Sha256Hash) (old new : Calling) : Type 0 where
  pub node : new.node ≡ old.node
  pub makes : Makes old.node So old.pass new.pass

-- the pass of a thread was replaced if it had made all its calls, if another was left; else it and the node are the same
abbrev pub IsRenewed : Calling → Calling → Type 0
IsRenewed old new = left_of old.pass ≢ 0 → new ≡ old
