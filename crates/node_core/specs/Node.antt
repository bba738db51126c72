-- The model of a node, and the effect of one alteration.
use Rattle.std.specs.Prelude.{ℕ, ◌+◌, ◌==◌, ◌&&◌, Bool, true, false, not, cond, max, Option, Some, None, List, [], ◌∷◌, ◌++◌, length, filter}
use Rattle.change_core.specs.declared.changes.Change.{Change}
use Rattle.change_core.specs.declared.changes.Sourced.{Sourced}
use Rattle.change_core.specs.declared.statuses.Status.{Status}
use Rattle.change_core.specs.declared.statuses.Status.TheVariants.{Alive, Suspect, Faulty, Leave, Tombstone}
use Rattle.change_core.specs.Members.{greatest, members, serving}
use Rattle.detector_core.specs.declared.timers.Timer.{Timer}
use Rattle.detector_core.specs.Probing.{ProbeState}
use Rattle.detector_core.specs.Timers.{with_timer, without_timer}
use Rattle.gossip_core.specs.Dissemination.{Dissemination, with_news, adjusted}
use Rattle.hash_ring.specs.declared.points.Point.{Point}
pub use Rattle.member_core.specs.Membership.{birth}
use Rattle.node_core.specs.declared.configs.Config.{Config}

-- a node: H is the type of its hash
pub record Node (H : Type 0) : Type 0 where
  pub own : ℕ
  pub hash : H
  pub config : Config
  pub members : List Change
  pub gossip : Dissemination
  pub timers : List Timer
  pub moment : ℕ
  pub probing : ProbeState

-- the node, and the points of the ring that it keeps
pub record Seen (H : Type 0) : Type 0 where
  pub node : Node H
  pub points : List Point

-- a node asserts of itself that it is alive or that it leaves
abbrev pub asserts : Status → Bool
asserts Alive = true
asserts Suspect = false
asserts Faulty = false
asserts Leave = true
asserts Tombstone = false

-- the own entry, and if there is none, a first entry at incarnation 0 with weight 1
abbrev pub or_birth : ℕ → Option Change → Change
or_birth own None = birth own 0 1
or_birth own (Some c) = c

-- the node's own entry
abbrev pub own_change : {H : Type 0} → Node H → Change
own_change node = or_birth node.own (greatest node.members node.own)

-- a change with the node as its source, at its incarnation
abbrev pub said_by : {H : Type 0} → Node H → Change → Sourced
said_by node c = record { change = c; source = node.own; source_incarnation = (own_change node).incarnation }

-- a change of the node's own entry, with the node at its new incarnation as source
abbrev pub asserted_by : ℕ → Change → Sourced
asserted_by own c = record { change = c; source = own; source_incarnation = c.incarnation }

-- the node, read at a moment: never earlier than the last one
abbrev pub at_moment : {H : Type 0} → Node H → ℕ → Node H
at_moment node moment = record node { moment = max node.moment moment }

-- the status that an entry of this status gets at its deadline
abbrev pub next_status : Status → Status
next_status Alive = Alive
next_status Suspect = Faulty
next_status Faulty = Tombstone
next_status Leave = Leave
next_status Tombstone = Tombstone

-- whether an entry with this status has a deadline: a suspect or a faulty one does
abbrev pub has_deadline : Status → Bool
has_deadline Alive = false
has_deadline Suspect = true
has_deadline Faulty = true
has_deadline Leave = false
has_deadline Tombstone = false

-- the time in milliseconds until that deadline
abbrev pub wait_for : Config → Status → ℕ
wait_for config Alive = 0
wait_for config Suspect = config.suspect_ms
wait_for config Faulty = config.faulty_ms
wait_for config Leave = 0
wait_for config Tombstone = 0

-- an entry of another that is suspect or faulty
abbrev pub is_timed : ℕ → Change → Bool
is_timed own c = has_deadline c.status && not (c.address == own)

-- the timers once there is a new entry, at a moment: another's that is suspect or faulty has one, any other has none
abbrev pub timers_with : ℕ → Config → ℕ → List Timer → Change → List Timer
timers_with own config moment timers c =
    cond (is_timed own c)
    (with_timer timers (record { address = c.address; incarnation = c.incarnation; next = next_status c.status; deadline = moment + wait_for config c.status }))
    (without_timer timers c.address)

-- the members with one change more
abbrev pub members_after : {H : Type 0} → Node H → Change → List Change
members_after node c = members (node.members ++ c ∷ [])

-- one alteration: the entry is among the members, it is passed on under the limit of those that serve now, and its timer is set or ended
abbrev pub altered : {H : Type 0} → Node H → Sourced → Node H
altered node s =
    record node {
      members = members_after node s.change;
      gossip = adjusted (with_news node.gossip s) (length (serving (members_after node s.change)));
      timers = timers_with node.own node.config node.moment node.timers s.change;
    }

-- the serving members but the node itself, ascending
abbrev pub pingable : {H : Type 0} → Node H → List ℕ
pingable node = filter (λ a. not (a == node.own)) (serving node.members)
