-- Where an alteration can need memory.
use Rattle.std.proofs.Common.{◌≡◌, ℕ, List, Option, Some, None, Result, subst}
use Rattle.std.specs.Prelude.{option_map, IfSome, OnErr}
use Rattle.change_core.specs.declared.changes.Change.{Change}
use Rattle.hash_ring.specs.RingModel.{RingModel}
use Rattle.node_core.specs.Expiring.{expired}
use Rattle.node_core.specs.Node.{Node}
use Rattle.node_core.specs.Parts.{Parts, AreParts, node_of}
use Rattle.node_core.specs.Room.{TakesPlace, WantsRoom}

-- what the parts of a node want room for, the node does
pub WantsRoom-parts : {H T E : Type 0} (hash_of : H → List ℕ → ℕ) (p : Parts H) → AreParts hash_of p → (c : Change) (result : Result T E)
    → OnErr result (TakesPlace p.members.own.address p.members.members p.ring.servers p.gossip.pending c) → OnErr result (WantsRoom (node_of p) c)
WantsRoom-parts {H} hash_of p parts c result =
    subst (λ (r : RingModel H). OnErr result (TakesPlace p.members.own.address p.members.members r.servers p.gossip.pending c)) parts.ring_is

-- what is said at a deadline is the entry that is due, with its next status
pub WantsRoom-expired : {H : Type 0} (node : Node H) (entry : Option Change) (c : Change) → Some c ≡ option_map expired entry → WantsRoom node c
    → IfSome entry (λ d. WantsRoom node (expired d))
WantsRoom-expired node None c e wants = tt
WantsRoom-expired node (Some d) c e wants = let same : c ≡ expired d = cc in subst (λ (x : Change). WantsRoom node x) same wants
