-- The parts that a node keeps, their model, and how they agree.
use Rattle.std.specs.Prelude.{◌≡◌, ℕ, List}
use Rattle.detector_core.specs.Probing.{ProbeState}
use Rattle.detector_core.specs.Timers.{TimerList, IsAscending}
use Rattle.gossip_core.specs.Dissemination.{Dissemination}
use Rattle.hash_ring.specs.Points.{points}
use Rattle.hash_ring.specs.RingModel.{RingModel, ring_of}
use Rattle.hash_ring.specs.Serving.{servers_of}
use Rattle.member_core.specs.Membership.{Membership, IsMembership}
use Rattle.node_core.specs.declared.configs.Config.{Config}
use Rattle.node_core.specs.Invariant.{IsNode}
use Rattle.node_core.specs.Node.{Node, Seen}

-- the parts that a node keeps: configuration, membership, ring, pending changes, timers, prober and last moment
pub record Parts (H : Type 0) : Type 0 where
  pub config : Config
  pub members : Membership
  pub ring : RingModel H
  pub gossip : Dissemination
  pub timers : TimerList
  pub probing : ProbeState
  pub moment : ℕ

-- the node of these parts
abbrev pub node_of : {H : Type 0} → Parts H → Node H
node_of p = record {
  own = p.members.own.address;
  hash = p.ring.hash;
  config = p.config;
  members = p.members.members;
  gossip = p.gossip;
  timers = p.timers.timers;
  moment = p.moment;
  probing = p.probing;
}

-- the model of these parts: their node, and the points of their ring
abbrev pub seen_in : {H : Type 0} → Parts H → Seen H
seen_in p = record { node = node_of p; points = p.ring.points }

-- a node with the ring of its members
abbrev pub seen_of : {H : Type 0} → (H → List ℕ → ℕ) → Node H → Seen H
seen_of hash_of node = record { node = node; points = points (hash_of node.hash) node.config.replicas (servers_of node.members) }

-- the parts are those of one node, and the ring is that of its members
pub record AreParts {H : Type 0} (hash_of : H → List ℕ → ℕ) (p : Parts H) : Type 0 where
  pub kept : IsNode (node_of p)
  pub membership : IsMembership p.members.own p.members.members p.members.max
  pub most : p.members.max ≡ p.config.max_members
  pub ring_is : p.ring ≡ ring_of p.ring.hash (hash_of p.ring.hash) p.config.replicas (servers_of p.members.members) p.ring.room
  pub rising : IsAscending p.timers.timers
