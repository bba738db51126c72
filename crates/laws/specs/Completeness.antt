-- Every member that can be pinged is probed at least once in any 2n - 1 rounds: the time-bounded completeness of SWIM, section 4.3.
use Rattle.std.specs.Prelude.{◌≡◌, ◌⊎◌, ◌≤◌, ◌-◌, ◌*◌, ℕ, Contains, List, [], ◌∷◌, ◌++◌, length, Result, Ok}
use Rattle.change_core.specs.Ascending.{In}
use Rattle.message_core.specs.declared.messages.Message.{Message}
use Rattle.node_core.specs.declared.events.Event.TheVariants as call
use Rattle.node_core.specs.declared.errors.NodeError.{NodeError}
use Rattle.node_core.specs.declared.events.NodeOutcome.{NodeOutcome}
use Rattle.node_core.specs.declared.events.Received.{Received}
use Rattle.node_core.specs.declared.events.Reply.TheVariants as reply
use Rattle.detector_core.specs.declared.asked.Said.TheVariants as said
use Rattle.node_core.specs.Calls.{OfEvent}
use Rattle.node_core.specs.Invariant.{IsNode}
use Rattle.node_core.specs.Node.{Node, pingable}
use Rattle.turn_lock.specs.History.{entries_of}
use Rattle.locked_node.specs.History.{CallEntry, History, LegalHistory}
use Rattle.node_core.specs.Invariant.{IsSeen}
use Rattle.turn_lock.specs.Passes as lock
use Rattle.locked_node.specs.declared.node.LockedNode.{LockedNode}
use Rattle.locked_node.specs.Passes.{NodePass, Made, opening_of}
use Rattle.peer_core.specs.declared.rounds.Round.{Round}
use Rattle.peer_core.specs.declared.rounds.Round.TheVariants.{Reached, Suspected, Inconclusive}
use Rattle.peer_core.specs.Acts.{OfActs, acts_of, did}
use Rattle.peer_core.specs.Correcting.{IsCorrectingRound}
use Rattle.peer_core.specs.Links.{MayAnswer, IsAckOf}
use Rattle.peer_core.specs.Rounds.{IsRound}

-- a round at this moment that ended so, or one that corrects its target
abbrev pub IsEitherRound : {H : Type 0} → MayAnswer → ℕ → Round → OfActs H
IsEitherRound Came now end acts = IsRound Came now (Ok end) acts ⊎ IsCorrectingRound Came now (Ok end) acts

-- a round of gossip: the calls that its pass made since the round before, its own moment, how it ended, and the calls that it made of the node
pub record GossipRound (H : Type 0) : Type 0 where
  pub between : List (CallEntry H)
  pub now : ℕ
  pub round : Round
  pub entries : List (CallEntry H)

-- the calls of these rounds and those between them, in their order
abbrev pub calls_in : {H : Type 0} → List (GossipRound H) → List (CallEntry H)
calls_in [] = []
calls_in (r ∷ rs) = r.between ++ (r.entries ++ calls_in rs)

-- none of these calls begins a probe
abbrev pub BeginsNone : {H : Type 0} → List (CallEntry H) → Type 0
BeginsNone {H} entries = (e : CallEntry H) → In e entries → e.call ≡ OfEvent call.Probe → ⊥

-- in a history from this node, only this pass begins probes, and whenever it does these are the members that can be pinged
abbrev pub ProbesAlone : {H : Type 0} → ℕ → List ℕ → Node H → History H → Type 0
ProbesAlone n members node [] = Unit {0}
ProbesAlone n members node (t ∷ ts) = (t.entry.call ≡ OfEvent call.Probe → (t.pass ≡ n) × (pingable node ≡ members)) × ProbesAlone n members t.entry.after ts

-- an address is not reached in a round: no Ack of it is taken, and where the round ends with it as reached, no helper said so
pub record IsNotReached {H : Type 0} (a : ℕ) (r : GossipRound H) : Type 0 where
  pub no_ack : (ack : Message) (moment : ℕ) (received : Received) → Contains (acts_of r.entries) (did (call.Receive ack moment) (reply.Receive received)) → IsAckOf a ack → ⊥
  pub no_word : (k h moment : ℕ) (told : Result NodeOutcome NodeError) → r.round ≡ Reached a → Contains (acts_of r.entries) (did (call.HelperSaid k h said.Reached moment) (reply.HelperSaid told)) → ⊥

-- one of the rounds ends with the address as suspected, or as one of which no helper could tell
abbrev pub IsFound : {H : Type 0} → ℕ → List (GossipRound H) → Type 0
IsFound {H} a rounds = (r : GossipRound H) × In r rounds × ((r.round ≡ Suspected a) ⊎ (r.round ≡ Inconclusive a))

-- where one pass makes 2n - 1 rounds, correcting or not, none of them refused, and begins no probe between them, and n members can be pinged all the while, a member
-- that is not reached is found
abbrev pub MembersAreProbed : {H : Type 0} → (H → List ℕ → ℕ) → MayAnswer → Type 0
MembersAreProbed {H} hash_of Came =
    (n a : ℕ) (members : List ℕ) (old last : Node H) (history : History H) (rounds : List (GossipRound H))
    → IsNode old → LegalHistory hash_of old history last → entries_of n history ≡ calls_in rounds
    → ((r : GossipRound H) → In r rounds → BeginsNone r.between × IsEitherRound Came r.now r.round (acts_of r.entries))
    → ProbesAlone n members old history → Contains members a → 2 * length members - 1 ≤ length rounds
    → ((r : GossipRound H) → In r rounds → IsNotReached a r)
    → IsFound a rounds

-- a pass made these rounds and the calls between them, and was this one after the last
abbrev pub RoundsMade : {H : Type 0} → MayAnswer → LockedNode H → NodePass H → List (GossipRound H) → NodePass H → Type 0
RoundsMade Came locked old [] new = new ≡ old
RoundsMade {H} Came locked old (r ∷ rs) new =
    (start mid : NodePass H) × Made locked old start r.between × BeginsNone r.between × Made locked start mid r.entries
    × IsEitherRound Came r.now r.round (acts_of r.entries) × RoundsMade Came locked mid rs new

-- the same of rounds that a pass of a locked node made, in the part of the history that it has seen since: as many calls of `gossip_round` or
-- `correcting_round`, in any order
abbrev pub PassesProbe : {H : Type 0} → (H → List ℕ → ℕ) → MayAnswer → Type 0
PassesProbe {H} hash_of Came =
    (locked : LockedNode H) (p q : NodePass H) (a : ℕ) (members : List ℕ) (old last : Node H) (since : History H) (rounds : List (GossipRound H))
    → IsSeen hash_of (opening_of locked) → LegalHistory hash_of (opening_of locked).node (lock.seen p) old → LegalHistory hash_of old since last
    → lock.seen q ≡ lock.seen p ++ since → RoundsMade Came locked p rounds q
    → ProbesAlone (lock.number_of p) members old since → Contains members a → 2 * length members - 1 ≤ length rounds
    → ((r : GossipRound H) → In r rounds → IsNotReached a r)
    → IsFound a rounds
