-- The invariant of a node: it holds between any two calls.
use Rattle.std.specs.Prelude.{◌≡◌, ◌≢◌, ℕ, ◌<◌, ◌≤◌, true, cond, Option, Some, None, List, length, option_map}
use Rattle.change_core.specs.declared.changes.Change.{Change}
use Rattle.change_core.specs.declared.statuses.Status.{Status}
use Rattle.change_core.specs.Ascending.{In}
use Rattle.change_core.specs.Members.{greatest, serving, IsMemberList}
use Rattle.detector_core.specs.declared.timers.Timer.{Timer}
use Rattle.detector_core.specs.Probing.{OpenedProbe, IsProbing}
use Rattle.gossip_core.specs.declared.pending.Pending.{Pending}
use Rattle.gossip_core.specs.Pending.{subject, limit_for, OnePerAddress}
use Rattle.hash_ring.specs.Points.{points}
use Rattle.node_core.specs.declared.events.Event.{Event}
use Rattle.node_core.specs.declared.events.Reply.{Reply}
use Rattle.node_core.specs.Configs.{IsConfig}
use Rattle.node_core.specs.Expiring.{timer_of}
use Rattle.hash_ring.specs.Serving.{servers_of}
use Rattle.node_core.specs.Node.{Node, Seen, asserts, is_timed, next_status}
use Rattle.node_core.specs.Step.{NodeStep}

-- the purpose of a timer
abbrev pub Purpose : Type 0
Purpose = ℕ × Status

-- that of a timer: its incarnation, and the status that comes next
abbrev pub purpose_of : Timer → Purpose
purpose_of t = (t.incarnation, t.next)

-- the purpose of an entry's timer: another's entry that is suspect or faulty has one, at its incarnation
abbrev pub purpose : ℕ → Option Change → Option Purpose
purpose own None = None
purpose own (Some c) = cond (is_timed own c) (Some (c.incarnation, next_status c.status)) None

-- the invariant of a node between any two calls: of its entries, pending changes, timers, probe and configuration
pub record IsNode {H : Type 0} (node : Node H) : Type 0 where
  -- one entry for each address, ascending, and no more than may be
  pub one_each : IsMemberList node.members
  pub few : length node.members ≤ node.config.max_members
  -- the node holds itself, as alive or leave
  pub held : Change
  pub held_is : greatest node.members node.own ≡ Some held
  pub held_stays : asserts held.status ≡ true
  -- each pending change is a current entry, one for each address, and has not reached the limit of those that serve
  pub current : (p : Pending) → In p node.gossip.pending → greatest node.members (subject p) ≡ Some p.sourced.change
  pub apart : OnePerAddress node.gossip.pending
  pub unspent : (p : Pending) → In p node.gossip.pending → p.count < node.gossip.limit
  pub limit_is : node.gossip.limit ≡ limit_for node.gossip.factor (length (serving node.members))
  -- a timer runs exactly for each suspect or faulty entry of another
  pub timed : (a : ℕ) → option_map purpose_of (timer_of node.timers a) ≡ purpose node.own (greatest node.members a)
  -- a probe is of another
  pub others : (p : OpenedProbe) → node.probing.running ≡ Some p → p.target ≢ node.own
  pub probed : IsProbing node.probing
  -- the parts are as configured
  pub configured : IsConfig node.config
  pub factor_is : node.gossip.factor ≡ node.config.piggyback
  pub helpers_is : node.probing.helpers ≡ node.config.helpers

-- the ring that is kept is that of the serving members
pub record IsSeen {H : Type 0} (hash_of : H → List ℕ → ℕ) (seen : Seen H) : Type 0 where
  pub kept : IsNode seen.node
  pub ring : seen.points ≡ points (hash_of seen.node.hash) seen.node.config.replicas (servers_of seen.node.members)

-- every call keeps it
abbrev pub CallsKeepIt : {H : Type 0} → (H → List ℕ → ℕ) → Type 0
CallsKeepIt {H} hash_of = (old new : Node H) (event : Event) (reply : Reply) → IsNode old → NodeStep hash_of old event reply new → IsNode new
