-- Rounds of pings: in a round every node pings every other node, and no message is lost; and stretches, in which some are. Pings and acks alone
-- change nodes: a probe that begins or ends between them is no step here. That nodes converge so is this project's own theorem.
use Rattle.std.specs.Prelude.{◌≡◌, ◌≢◌, ◌≤◌, ◌+◌, ◌-◌, ◌*◌, ◌/◌, max, ℕ, List, [], ◌∷◌, length, Some, Ok}
use Rattle.std.specs.List.{count_by}
use Rattle.change_core.specs.declared.changes.Change.{Change}
use Rattle.change_core.specs.Ascending.{In}
use Rattle.change_core.specs.Members.{addresses, greatest, is_news, IsRising}
use Rattle.change_core.specs.Refutation.{refutation}
use Rattle.gossip_core.specs.Pending.{limit_for}
use Rattle.message_core.specs.declared.messages.Message.{Message}
use Rattle.node_core.specs.declared.events.Event.TheVariants as call
use Rattle.node_core.specs.declared.events.Received.TheVariants as received
use Rattle.node_core.specs.declared.events.Reply.TheVariants as answer
use Rattle.node_core.specs.declared.events.Taken.{Taken}
use Rattle.node_core.specs.Messages.{digest_of}
use Rattle.node_core.specs.Node.{Node, own_change}
use Rattle.node_core.specs.Step.{NodeStep}
use Rattle.node_core.specs.World.{placed_at}
use Rattle.laws.specs.Convergence.{Nodes, IsThere, AreNodes, HaveConverged}

-- one node pings another
pub record Ping : Type 0 where
  pub pinger : ℕ
  pub pinged : ℕ

-- a node pings another, which takes all of the ping and answers it; whether its ack arrives is left open
pub record AnsweredPing {H : Type 0} (hash_of : H → List ℕ → ℕ) (before : Nodes H) (p : Ping) : Type 0 where
  pub pinger : Node H
  pub waiting : Node H
  pub pinged : Node H
  pub answered : Node H
  pub ping : Message
  pub ack : Message
  pub pinged_took : Taken
  pub pinged_moment : ℕ
  pub apart : p.pinger ≢ p.pinged
  pub pinger_is : before p.pinger ≡ Some pinger
  pub pinged_is : before p.pinged ≡ Some pinged
  pub makes : NodeStep hash_of pinger (call.PingTo p.pinged) (answer.PingTo (Ok ping)) waiting
  pub answers : NodeStep hash_of pinged (call.Receive ping pinged_moment) (answer.Receive (received.Answer pinged_took ack)) answered

-- a ping and its ack lead from these nodes to those: neither is lost, and all changes of both are processed
pub record PingStep {H : Type 0} (hash_of : H → List ℕ → ℕ) (before : Nodes H) (p : Ping) (after : Nodes H) : Type 0 where
  pub sent : AnsweredPing hash_of before p
  pub done : Node H
  pub pinger_took : Taken
  pub acked_moment : ℕ
  pub takes : NodeStep hash_of sent.waiting (call.Receive sent.ack acked_moment) (answer.Receive (received.Done pinger_took)) done
  pub after_is : after ≡ placed_at p.pinger done (placed_at p.pinged sent.answered (placed_at p.pinger sent.waiting before))
  -- no collision: their digests differ if their members do
  pub no_collision : digest_of sent.pinger.members ≡ digest_of sent.answered.members → sent.pinger.members ≡ sent.answered.members

-- these pings, one after another, lead from these nodes to those
abbrev pub PingRun : {H : Type 0} → (H → List ℕ → ℕ) → Nodes H → List Ping → Nodes H → Type 0
PingRun hash_of before [] after = after ≡ before
PingRun {H} hash_of before (p ∷ ps) after = (between : Nodes H) × PingStep hash_of before p between × PingRun hash_of between ps after

-- in a round each node pings each other, in any order
abbrev pub IsRound : {H : Type 0} → Nodes H → List Ping → Type 0
IsRound nodes ps = (a b : ℕ) → IsThere nodes a → IsThere nodes b → a ≢ b → In (record { pinger = a; pinged = b }) ps

-- these rounds, one after another, lead from these nodes to those
abbrev pub RoundRun : {H : Type 0} → (H → List ℕ → ℕ) → Nodes H → List (List Ping) → Nodes H → Type 0
RoundRun hash_of before [] after = after ≡ before
RoundRun {H} hash_of before (r ∷ rs) after = (between : Nodes H) × IsRound before r × PingRun hash_of before r between × RoundRun hash_of between rs after

-- the size of a cluster: the addresses of its nodes, ascending, or of some of them; the changes that there may be, or more, as all up to one past the greatest
-- incarnation; and at most how many of these are news to a node, how many a node has pending, and how often a change is passed on
pub record Size : Type 0 where
  pub nodes : List ℕ
  pub changes : List Change
  pub news : ℕ
  pub pending : ℕ
  pub limit : ℕ

-- these nodes are within the size
pub record AreWithin {H : Type 0} (nodes : Nodes H) (size : Size) : Type 0 where
  pub ascending : IsRising size.nodes
  pub there : (a : ℕ) → In a size.nodes → IsThere nodes a
  -- among the changes is what a node holds, and what it answers to a rumour about itself
  pub held : (a x : ℕ) (node : Node H) (c : Change) → nodes a ≡ Some node → greatest node.members x ≡ Some c → In c size.changes
  pub refuted : (a : ℕ) (node : Node H) (c d : Change) → nodes a ≡ Some node → In c size.changes → In d size.changes → c.address ≡ a → d.address ≡ a
      → d.status ≡ (own_change node).status → c.status ≢ d.status → In (refutation d c) size.changes
  pub news : (a : ℕ) (node : Node H) → nodes a ≡ Some node → count_by (is_news node.members) size.changes ≤ size.news
  pub pending : (a : ℕ) (node : Node H) → nodes a ≡ Some node → length node.gossip.pending ≤ size.pending
  pub limits : (a n : ℕ) (node : Node H) → nodes a ≡ Some node → n ≤ length (addresses size.changes) → limit_for node.config.piggyback n ≤ size.limit

-- how many messages a node sends in a round to all but one of the others: a ping and an ack to each
abbrev pub round_messages : ℕ → ℕ
round_messages nodes = max 1 (2 * (nodes - 2))

-- the number of rounds among which each node has one in which it takes no news and passes nothing on, so that all others hear of all that it holds. To take news costs it a round,
-- and one more in which the last that is pending is spent; in any other round it passes on what is pending with each message
abbrev pub quiet_after : Size → ℕ
quiet_after size = 2 * size.news + (size.news + size.pending) * size.limit / round_messages (length size.nodes) + 2

-- how many rounds are enough: each node hears of all, and then all hear of it
abbrev pub enough_rounds : Size → ℕ
enough_rounds size = 2 * quiet_after size

-- nodes that hold no changes but these entries, with one weight for each address, are within a size of twice as many changes, all of them news: of each
-- entry also what the node at its address answers to it
abbrev pub EntriesSize : Type 0 → Type 0
EntriesSize H =
    (nodes : Nodes H) (some : List ℕ) (entries : List Change) (weight_of : ℕ → ℕ) (pending limit : ℕ)
    → ((a x : ℕ) (node : Node H) (c : Change) → nodes a ≡ Some node → greatest node.members x ≡ Some c → In c entries)
    → ((c : Change) → In c entries → c.weight ≡ weight_of c.address)
    → ((a : ℕ) (node : Node H) → nodes a ≡ Some node → length node.gossip.pending ≤ pending)
    → ((a n : ℕ) (node : Node H) → nodes a ≡ Some node → n ≤ length (addresses entries) → limit_for node.config.piggyback n ≤ limit)
    → IsRising some → ((a : ℕ) → In a some → IsThere nodes a)
    → (changes : List Change) × AreWithin nodes (record { nodes = some; changes = changes; news = 2 * length entries; pending = pending; limit = limit })

-- nodes converge in this many rounds of pings
abbrev pub RoundsConverge : {H : Type 0} → (H → List ℕ → ℕ) → Type 0
RoundsConverge {H} hash_of =
    (before after : Nodes H) (rounds : List (List Ping)) (size : Size) → AreNodes before → AreWithin before size → RoundRun hash_of before rounds after
    → enough_rounds size ≤ length rounds → HaveConverged before after

-- what becomes of a ping: it is acknowledged, or its ack is lost, or it is lost itself
pub data Fate : Type 0 where
  Acknowledged : Fate
  AckLost : Fate
  PingLost : Fate

-- a ping, and what becomes of it
pub record SentPing : Type 0 where
  pub ping : Ping
  pub fate : Fate

-- a ping whose ack is lost leads from these nodes to those
pub record AckLostStep {H : Type 0} (hash_of : H → List ℕ → ℕ) (before : Nodes H) (p : Ping) (after : Nodes H) : Type 0 where
  pub sent : AnsweredPing hash_of before p
  pub after_is : after ≡ placed_at p.pinged sent.answered (placed_at p.pinger sent.waiting before)

-- a ping that is lost leads from these nodes to those: the pinger has counted what it passed on. There need not be a node at the address that it pings
pub record PingLostStep {H : Type 0} (hash_of : H → List ℕ → ℕ) (before : Nodes H) (p : Ping) (after : Nodes H) : Type 0 where
  pub pinger : Node H
  pub waiting : Node H
  pub ping : Message
  pub pinger_is : before p.pinger ≡ Some pinger
  pub makes : NodeStep hash_of pinger (call.PingTo p.pinged) (answer.PingTo (Ok ping)) waiting
  pub after_is : after ≡ placed_at p.pinger waiting before

-- a ping of this fate leads from these nodes to those
abbrev pub FateStep : {H : Type 0} → (H → List ℕ → ℕ) → Nodes H → Ping → Fate → Nodes H → Type 0
FateStep hash_of before p Acknowledged after = PingStep hash_of before p after
FateStep hash_of before p AckLost after = AckLostStep hash_of before p after
FateStep hash_of before p PingLost after = PingLostStep hash_of before p after

-- these pings with their fates, one after another, lead from these nodes to those
abbrev pub LossyRun : {H : Type 0} → (H → List ℕ → ℕ) → Nodes H → List SentPing → Nodes H → Type 0
LossyRun hash_of before [] after = after ≡ before
LossyRun {H} hash_of before (s ∷ ss) after = (between : Nodes H) × FateStep hash_of before s.ping s.fate between × LossyRun hash_of between ss after

-- in a stretch each node pings each other and is acknowledged, at least once, in any order; any other pings of it may be lost
abbrev pub IsStretch : {H : Type 0} → Nodes H → List SentPing → Type 0
IsStretch nodes ss = (a b : ℕ) → IsThere nodes a → IsThere nodes b → a ≢ b → In (record { ping = record { pinger = a; pinged = b }; fate = Acknowledged }) ss

-- these stretches, one after another, lead from these nodes to those
abbrev pub StretchRun : {H : Type 0} → (H → List ℕ → ℕ) → Nodes H → List (List SentPing) → Nodes H → Type 0
StretchRun hash_of before [] after = after ≡ before
StretchRun {H} hash_of before (s ∷ ss) after = (between : Nodes H) × IsStretch before s × LossyRun hash_of before s between × StretchRun hash_of between ss after

-- nodes converge in as many stretches of pings as rounds without loss are enough, whatever is lost in between
abbrev pub StretchesConverge : {H : Type 0} → (H → List ℕ → ℕ) → Type 0
StretchesConverge {H} hash_of =
    (before after : Nodes H) (stretches : List (List SentPing)) (size : Size) → AreNodes before → AreWithin before size → StretchRun hash_of before stretches after
    → enough_rounds size ≤ length stretches → HaveConverged before after
