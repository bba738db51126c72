-- What an alteration of a node can need memory for.
use Rattle.std.specs.Prelude.{◌≡◌, ℕ, ◌<◌, ◌⊎◌, ◌&&◌, Bool, true, false, not, Option, None, List}
use Rattle.std.specs.Option.{option_map_or}
use Rattle.change_core.specs.declared.changes.Change.{Change}
use Rattle.change_core.specs.Members.{greatest}
use Rattle.change_core.specs.Status.{is_serving}
use Rattle.gossip_core.specs.declared.pending.Pending.{Pending}
use Rattle.gossip_core.specs.Pending.{NoneAbout}
use Rattle.hash_ring.specs.declared.servers.Server.{Server}
use Rattle.hash_ring.specs.Servers.{shares}
use Rattle.hash_ring.specs.Serving.{servers_of}
use Rattle.node_core.specs.Node.{Node, has_deadline, is_timed}

-- an entry has more points in the ring than its address had: it serves, and with a greater weight
abbrev pub GetsPoints : List Server → Change → Type 0
GetsPoints servers c = (is_serving c.status ≡ true) × (shares c.address servers < c.weight)

-- an entry has a timer, and the one before it had none
abbrev pub gets_timer : ℕ → Option Change → Change → Bool
gets_timer own held c = is_timed own c && not (option_map_or (λ d. has_deadline d.status) held false)

-- among these members, servers and pending changes an entry takes a place that its address had not: among the members, in the pending list, in the
-- ring, or among the timers
abbrev pub TakesPlace : ℕ → List Change → List Server → List Pending → Change → Type 0
TakesPlace own members servers pending c =
    (greatest members c.address ≡ None) ⊎ (NoneAbout c.address pending ⊎ (GetsPoints servers c ⊎ (gets_timer own (greatest members c.address) c ≡ true)))

-- an alteration of a node to this entry can need memory: it takes such a place; all else is written over what is there
abbrev pub WantsRoom : {H : Type 0} → Node H → Change → Type 0
WantsRoom node c = TakesPlace node.own node.members (servers_of node.members) node.gossip.pending c
