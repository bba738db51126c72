-- A world in which no call makes a new change: each call delivers a message to a node, and may send one.
use Rattle.std.specs.Prelude.{◌≡◌, ℕ, Bool, true, Some, List, [], ◌∷◌, ◌++◌, map, length, slice_get}
use Rattle.change_core.specs.declared.changes.Change.{Change}
use Rattle.message_core.specs.declared.messages.Message.{Message}
use Rattle.node_core.specs.declared.events.Event.{Event}
use Rattle.node_core.specs.declared.events.Event.TheVariants as call
use Rattle.node_core.specs.declared.events.Reply.{Reply}
use Rattle.node_core.specs.Node.{Node}
use Rattle.node_core.specs.Run.{said_in}
use Rattle.node_core.specs.World.{World, WorldEvent, Calls, MayHappen, happens, world_after, made_in}
use Rattle.laws.specs.Convergence.{IsThere, AreNodes, HoldsNoLess, GathersThenBroadcasts, HaveConverged}
use Rattle.laws.specs.Delivery.{NetworkEvent, Sends, Delivers, AtNode, hop_of, with_message}

-- a call of a node in a world, the number of the message that it receives, and whether it takes the whole of what the sender held
pub record GossipCall (H : Type 0) : Type 0 where
  pub own : ℕ
  pub event : Event
  pub reply : Reply
  pub after : Node H
  pub number : ℕ
  pub whole : Bool

-- the call as an event of the world
abbrev pub event_of : {H : Type 0} → GossipCall H → WorldEvent H
event_of g = Calls g.own g.event g.reply g.after

-- the message that comes has this number, from 0 in the order in which messages are made; for a call that receives none any number will do
abbrev pub ReceivesNumber : List Message → Event → ℕ → Type 0
ReceivesNumber messages (call.Receive message moment) k = slice_get messages k ≡ Some message
ReceivesNumber messages event k = Unit {0}

-- what the senders of messages held, with the sender of this one if it was made
abbrev pub with_made : ℕ → List Message → List Change → (ℕ → List Change) → ℕ → List Change
with_made number [] held senders = senders
with_made number (m ∷ ms) held senders = with_message number held senders

-- the same once the call is made
abbrev pub senders_after : {H : Type 0} → World H → (ℕ → List Change) → GossipCall H → ℕ → List Change
senders_after w senders g = with_made (length w.messages) (made_in g.reply) g.after.members senders

-- the call may happen, makes no new change, and takes the whole only if the node then holds no less than the sender did
pub record MayGossip {H : Type 0} (hash_of : H → List ℕ → ℕ) (w : World H) (senders : ℕ → List Change) (g : GossipCall H) : Type 0 where
  pub may : MayHappen hash_of w (event_of g)
  pub asserts_nothing : said_in g.reply ≡ []
  pub receives : ReceivesNumber w.messages g.event g.number
  pub covers : g.whole ≡ true → HoldsNoLess g.after (senders g.number)

-- so may these calls, one after another
abbrev pub MayAllGossip : {H : Type 0} → (H → List ℕ → ℕ) → World H → (ℕ → List Change) → List (GossipCall H) → Type 0
MayAllGossip hash_of w senders [] = Unit {0}
MayAllGossip hash_of w senders (g ∷ gs) = MayGossip hash_of w senders g × MayAllGossip hash_of (happens w (event_of g)) (senders_after w senders g) gs

-- the sending of the message that a call makes
abbrev pub sends : ℕ → ℕ → List Message → List NetworkEvent
sends own number [] = []
sends own number (m ∷ ms) = Sends own number ∷ []

-- a call as events of a network: the delivery of what it receives, and the sending of what it makes
abbrev pub transmissions : {H : Type 0} → World H → GossipCall H → List NetworkEvent
transmissions w g = Delivers g.number g.own g.whole ∷ sends g.own (length w.messages) (made_in g.reply)

-- calls as events of a network
abbrev pub all_transmissions : {H : Type 0} → World H → List (GossipCall H) → List NetworkEvent
all_transmissions w [] = []
all_transmissions w (g ∷ gs) = transmissions w g ++ all_transmissions (happens w (event_of g)) gs

-- no message was made yet
abbrev pub no_senders : ℕ → List Change
no_senders k = []

-- nodes of a world without messages converge in any calls that make no new change, whatever is lost, repeated or reordered, if each gathers from all and then broadcasts to all
abbrev pub WorldsConverge : {H : Type 0} → (H → List ℕ → ℕ) → Type 0
WorldsConverge {H} hash_of =
    (w : World H) (calls : List (GossipCall H)) → AreNodes w.nodes → w.messages ≡ [] → MayAllGossip hash_of w no_senders calls
    → ((a : ℕ) → IsThere w.nodes a → GathersThenBroadcasts AtNode w.nodes (map hop_of (all_transmissions w calls)) a)
    → HaveConverged w.nodes (world_after w (map event_of calls)).nodes
