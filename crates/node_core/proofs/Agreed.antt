-- What is seen of a node whose parts agree.
use Rattle.std.proofs.Common.{◌≡◌, ℕ, List, sym, ◌∙◌, ap}
use Rattle.hash_ring.specs.declared.servers.Server.{Server}
use Rattle.hash_ring.specs.RingModel.{RingModel, ring_of}
use Rattle.node_core.specs.Invariant.{IsSeen}
use Rattle.node_core.specs.Node.{own_change, or_birth}
use Rattle.node_core.specs.Parts.{Parts, AreParts, node_of, seen_in}

-- a ring of its servers, by the hash that it holds itself
pub ring_of-hash : {H : Type 0} (hash_of : H → List ℕ → ℕ) (ring : RingModel H) (hash : H) (replicas : ℕ) (servers : List Server)
    → ring ≡ ring_of hash (hash_of hash) replicas servers ring.room → ring ≡ ring_of ring.hash (hash_of ring.hash) replicas servers ring.room
ring_of-hash {H} hash_of ring hash replicas servers e =
    e ∙ ap (λ (h : H). ring_of h (hash_of h) replicas servers ring.room) (sym (ap (λ (r : RingModel H). r.hash) e))

module _ {H : Type 0} (hash_of : H → List ℕ → ℕ) (p : Parts H) (parts : AreParts hash_of p) where
  -- what the node holds of itself is its own entry
  pub own_change-parts : own_change (node_of p) ≡ p.members.own
  own_change-parts = ap (or_birth p.members.own.address) parts.membership.holds_itself

  -- the ring that is seen is that of the members
  pub IsSeen-parts : IsSeen hash_of (seen_in p)
  IsSeen-parts = record { kept = parts.kept; ring = ap (λ (r : RingModel H). r.points) parts.ring_is }
