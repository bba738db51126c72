-- The making of a view in an empty handle, and its lookups.
use Rattle.std.specs.Prelude.{◌≡◌, ℕ, List, Option, Some, None}
use Rattle.hash_ring.specs.declared.hash.Sha256Hash.{Sha256Hash}
use Rattle.hash_ring.specs.Points.{owner, hash_of}
use Rattle.node_core.specs.Node.{Node}
use Rattle.node_core.specs.Viewing.{Viewed, view_of}
use Rattle.ringpop_c.specs.declared.codes.Code.{Code}
use Rattle.ringpop_c.specs.declared.codes.Code.TheVariants as code
use Rattle.ringpop_c.specs.Codes.{code_number}
use Rattle.ringpop_c.specs.Owned.{HeldNode, HeldView}
use Rattle.ringpop_c.specs.Owners.{OwnersBy, Place, ViewOwnersBy}
use Rattle.ringpop_c.specs.Steps.{owner_by}

-- a full handle returns that it is full, and is unchanged; an empty one returns that the node's is empty, or gets the view of the node, or
-- is out of memory for it
abbrev pub Views : Option HeldNode → Option HeldView → ℕ → Option HeldView → Type 0
Views _ (Some held) number new = (number ≡ code_number code.HasNode) × (new ≡ Some held)
Views None None number new = (number ≡ code_number code.NoNode) × (new ≡ None)
Views (Some held) None number None = number ≡ code_number code.Memory
Views (Some held) None number (Some seen) = (number ≡ code_number code.Done) × (seen.inner ≡ view_of held.inner.node)

-- an empty handle returns that it is empty; a full one returns a code that the lookup allows
abbrev pub LooksView : (Viewed Sha256Hash → Code → Type 0) → Option HeldView → ℕ → Type 0
LooksView look None number = number ≡ code_number code.NoNode
LooksView look (Some held) number = (answer : Code) × (number ≡ code_number answer) × look held.inner answer

-- the owner of a key among the servers of a view, by the first eight bytes of SHA-256
abbrev pub view_owner : Viewed Sha256Hash → List ℕ → Option ℕ
view_owner view key = owner (hash_of view.hash) view.replicas view.servers key

-- the view of a node names the owner of each key that the node names, and lists first owners as the node does
abbrev pub ViewsNameOwners : Type 0
ViewsNameOwners =
    (node : Node Sha256Hash) (key : List ℕ)
    → (view_owner (view_of node) key ≡ owner_by node key)
    × ((n : ℕ) (place : Place) (answer : Code) → ViewOwnersBy key n place (view_of node) answer → OwnersBy key n place node answer)
