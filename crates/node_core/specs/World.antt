-- Many nodes and the messages between them: a message may arrive at any node, again and in any order, or never.
use Rattle.std.specs.Prelude.{◌≡◌, ℕ, ◌<◌, ◌==◌, cond, Option, Some, None, Ok, List, [], ◌∷◌, ◌++◌}
use Rattle.change_core.specs.declared.changes.Change.{Change}
use Rattle.change_core.specs.declared.changes.Sourced.{Sourced}
use Rattle.change_core.specs.declared.statuses.Status.TheVariants.{Alive}
use Rattle.change_core.specs.Ascending.{In}
use Rattle.change_core.specs.Members.{greatest}
use Rattle.change_core.specs.Refutation.{refutations, log_one}
use Rattle.rand_pcg.specs.Lcg.{Lcg}
use Rattle.detector_core.specs.declared.timers.Timer.{Timer}
use Rattle.gossip_core.specs.declared.pending.Pending.{Pending}
use Rattle.gossip_core.specs.Pending.{fresh, limit_for}
use Rattle.message_core.specs.declared.messages.Message.{Message}
use Rattle.node_core.specs.declared.configs.Config.{Config}
use Rattle.node_core.specs.declared.events.Event.{Event}
use Rattle.node_core.specs.declared.events.Event.TheVariants as call
use Rattle.node_core.specs.declared.events.Reply.{Reply}
use Rattle.node_core.specs.declared.events.Reply.TheVariants as answer
use Rattle.node_core.specs.declared.events.Received.TheVariants as received
use Rattle.node_core.specs.Messages.{carried}
use Rattle.node_core.specs.Node.{Node, asserts, birth, asserted_by}
use Rattle.node_core.specs.Run.{given_in}
use Rattle.node_core.specs.Step.{NodeStep}

-- a new node
abbrev pub initial_node : {H : Type 0} → H → Config → ℕ → ℕ → ℕ → Lcg → Node H
initial_node hash config own incarnation moment generator = record {
  own = own;
  hash = hash;
  config = config;
  members = birth own incarnation config.weight ∷ [];
  gossip = record { factor = config.piggyback; limit = limit_for config.piggyback 1; pending = fresh (asserted_by own (birth own incarnation config.weight)) ∷ [] };
  timers = [];
  moment = moment;
  probing = record { last = 0; helpers = config.helpers; rest = []; generator = generator; running = None };
}

-- the refutations in a log for these given changes
abbrev pub refuted_in : ℕ → List Change → List Change → List Change
refuted_in own log [] = []
refuted_in own log (c ∷ cs) = refutations own (greatest log own) c ++ refuted_in own (log_one own log c) cs

-- the change that a leave or a rejoin answers
abbrev pub renewed_in : Reply → List Change
renewed_in (answer.Leave (Ok change)) = change ∷ []
renewed_in (answer.Rejoin (Ok change)) = change ∷ []
renewed_in reply = []

-- the entries that a node asserts of itself in one call: its refutations, and that it leaves or is back
abbrev pub asserted_in : {H : Type 0} → Node H → Event → Reply → List Change
asserted_in old event reply = refuted_in old.own old.members (given_in event reply) ++ renewed_in reply

-- the message that a call makes
abbrev pub made_in : Reply → List Message
made_in (answer.JoinMessage (Ok message)) = message ∷ []
made_in (answer.PingTo (Ok message)) = message ∷ []
made_in (answer.PingReqTo (Ok message)) = message ∷ []
made_in (answer.PingReqAckTo (Ok message)) = message ∷ []
made_in (answer.Receive (received.Answer taken message)) = message ∷ []
made_in reply = []

-- the nodes by address, each message that was ever made, and what the addresses have asserted of themselves, in order
pub record World (H : Type 0) : Type 0 where
  pub nodes : ℕ → Option (Node H)
  pub messages : List Message
  pub asserted : List Change

-- an event: a node starts, starts again, or is called. A message that arrives is a call of `receive`, and one that never does is lost
pub data WorldEvent (H : Type 0) : Type 0 where
  Starts : (hash : H) (config : Config) (own incarnation moment : ℕ) (generator : Lcg) → WorldEvent H
  Restarts : (hash : H) (config : Config) (own incarnation moment : ℕ) (generator : Lcg) → WorldEvent H
  Calls : (own : ℕ) (event : Event) (reply : Reply) (after : Node H) → WorldEvent H

-- the nodes with this one at its address
abbrev pub placed_at : {H : Type 0} → ℕ → Node H → (ℕ → Option (Node H)) → ℕ → Option (Node H)
placed_at own node nodes a = cond (a == own) (Some node) (nodes a)

-- the world with a new node at its address, which asserts its first entry
abbrev pub begins : {H : Type 0} → World H → H → Config → ℕ → ℕ → ℕ → Lcg → World H
begins w hash config own incarnation moment generator = record {
  nodes = placed_at own (initial_node hash config own incarnation moment generator) w.nodes;
  messages = w.messages;
  asserted = w.asserted ++ birth own incarnation config.weight ∷ [];
}

-- a call of a node that is there
abbrev pub called : {H : Type 0} → World H → Option (Node H) → ℕ → Event → Reply → Node H → World H
called w None own event reply after = w
called w (Some before) own event reply after = record {
  nodes = placed_at own after w.nodes;
  messages = w.messages ++ made_in reply;
  asserted = w.asserted ++ asserted_in before event reply;
}

-- the world after one event
abbrev pub happens : {H : Type 0} → World H → WorldEvent H → World H
happens w (Starts hash config own incarnation moment generator) = begins w hash config own incarnation moment generator
happens w (Restarts hash config own incarnation moment generator) = begins w hash config own incarnation moment generator
happens w (Calls own event reply after) = called w (w.nodes own) own event reply after

-- a node receives only messages that were made; no change arrives without a message
abbrev pub Comes : List Message → Event → Type 0
Comes messages (call.Take given moment) = ⊥
Comes messages (call.Receive message moment) = In message messages
Comes messages event = Unit {0}

-- this may happen now: a start if there is no node, a restart past all that its address has asserted, a step of a node that is there
abbrev pub MayHappen : {H : Type 0} → (H → List ℕ → ℕ) → World H → WorldEvent H → Type 0
MayHappen hash_of w (Starts hash config own incarnation moment generator) = w.nodes own ≡ None
MayHappen hash_of w (Restarts hash config own incarnation moment generator) = (c : Change) → In c w.asserted → c.address ≡ own → c.incarnation < incarnation
MayHappen {H} hash_of w (Calls own event reply after) =
    (before : Node H) × (w.nodes own ≡ Some before) × Comes w.messages event × NodeStep hash_of before event reply after

-- these may happen, one after another
abbrev pub MayAllHappen : {H : Type 0} → (H → List ℕ → ℕ) → World H → List (WorldEvent H) → Type 0
MayAllHappen hash_of w [] = Unit {0}
MayAllHappen hash_of w (e ∷ es) = MayHappen hash_of w e × MayAllHappen hash_of (happens w e) es

-- the world after these events, one after another
abbrev pub world_after : {H : Type 0} → World H → List (WorldEvent H) → World H
world_after w [] = w
world_after w (e ∷ es) = world_after (happens w e) es

-- no nodes, no messages, and nothing asserted
abbrev pub nothing : {H : Type 0} → World H
nothing = record { nodes = λ a. None; messages = []; asserted = [] }

-- the change on which a change rests: alive and leave on themselves, suspect, faulty and tombstone on alive at that incarnation and weight
abbrev pub grounds : Change → Change
grounds c = cond (asserts c.status) c (record c { status = Alive })

-- the change on which this one rests was asserted
abbrev pub IsGrounded : List Change → Change → Type 0
IsGrounded asserted c = In (grounds c) asserted

-- the address asserted something at this incarnation
abbrev pub IsAssertedAt : List Change → ℕ → ℕ → Type 0
IsAssertedAt asserted a incarnation = (c : Change) × In c asserted × (c.address ≡ a) × (c.incarnation ≡ incarnation)

-- of two changes that may be there the first, and if it is not there the second
abbrev pub later : Option Change → Option Change → Option Change
later (Some c) earlier = Some c
later None earlier = earlier

-- the last of the list about an address
abbrev pub last_about : ℕ → List Change → Option Change
last_about a [] = None
last_about a (c ∷ cs) = later (last_about a cs) (cond (c.address == a) (Some c) None)

-- an entry of a node or of a message: its address asserted its incarnation, and the entry on which it rests
pub record IsTrueEntry (asserted : List Change) (c : Change) : Type 0 where
  pub incarnation : IsAssertedAt asserted c.address c.incarnation
  pub grounded : IsGrounded asserted c

-- a change of a message: the entry, and its source's incarnation
pub record IsTrueNews (asserted : List Change) (s : Sourced) : Type 0 where
  pub entry : IsTrueEntry asserted s.change
  pub source : IsAssertedAt asserted s.source s.source_incarnation

-- a message: its source asserted the incarnation that it names, and each change that it carries is true
pub record IsTrueMessage (asserted : List Change) (message : Message) : Type 0 where
  pub source : IsAssertedAt asserted message.source message.source_incarnation
  pub changes : (s : Sourced) → In s (carried message.content) → IsTrueNews asserted s

-- a node at this address: its entries and what it passes on are true, its timers' incarnations were asserted, and it holds itself as it last asserted
pub record IsTrueNode {H : Type 0} (asserted : List Change) (a : ℕ) (node : Node H) : Type 0 where
  pub entries : (c : Change) → In c node.members → IsTrueEntry asserted c
  pub passed_on : (p : Pending) → In p node.gossip.pending → IsTrueNews asserted p.sourced
  pub timed : (t : Timer) → In t node.timers → IsAssertedAt asserted t.address t.incarnation
  pub is_own : node.own ≡ a
  pub itself : greatest node.members a ≡ last_about a asserted

-- every node and every message of a world has true entries alone
pub record IsTrueWorld {H : Type 0} (w : World H) : Type 0 where
  pub nodes : (a : ℕ) (node : Node H) → w.nodes a ≡ Some node → IsTrueNode w.asserted a node
  pub messages : (message : Message) → In message w.messages → IsTrueMessage w.asserted message

-- so it is after any events
abbrev pub WorldsAreTrue : {H : Type 0} → (H → List ℕ → ℕ) → Type 0
WorldsAreTrue {H} hash_of = (events : List (WorldEvent H)) → MayAllHappen hash_of nothing events → IsTrueWorld (world_after nothing events)
