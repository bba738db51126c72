-- What contracts see of a view of a node: whose it is, at which incarnation, and the servers of its ring.
use Rattle.std.specs.Prelude.{ℕ, List}
use Rattle.hash_ring.specs.RingModel.{RingModel}
use Rattle.hash_ring.specs.Serving.{servers_of}
use Rattle.hash_ring.specs.declared.servers.Server.{Server}
use Rattle.node_core.specs.Node.{Node, own_change}

-- whose view it is, the incarnation of its own entry, the hash and the number of replicas of its ring, and the servers with their weights
pub record Viewed (H : Type 0) : Type 0 where
  pub own : ℕ
  pub incarnation : ℕ
  pub hash : H
  pub replicas : ℕ
  pub servers : List Server

-- the view of a node of this address, at this incarnation, with this ring
abbrev pub viewed : {H : Type 0} → ℕ → ℕ → RingModel H → Viewed H
viewed own incarnation ring = record { own = own; incarnation = incarnation; hash = ring.hash; replicas = ring.replicas; servers = ring.servers }

-- the view of a node: its servers are the members that serve
abbrev pub view_of : {H : Type 0} → Node H → Viewed H
view_of node = record { own = node.own; incarnation = (own_change node).incarnation; hash = node.hash; replicas = node.config.replicas; servers = servers_of node.members }
