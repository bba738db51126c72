-- Nodes that threads share. One order of all their calls, in which each message comes after it was made, is a run of a world.
use Rattle.std.specs.Prelude.{◌≡◌, ◌==◌, ℕ, Some, List, [], ◌∷◌, ◌++◌, filter, map}
use Rattle.change_core.specs.Ascending.{In}
use Rattle.message_core.specs.declared.messages.Message.{Message}
use Rattle.node_core.specs.declared.configs.Config.{Config}
use Rattle.node_core.specs.Calls.{Call, OfEvent, OfView, Answer, WithReply, WithView}
use Rattle.node_core.specs.Node.{Node}
use Rattle.node_core.specs.World.{World, WorldEvent, Starts, Calls, Comes, MayAllHappen, IsTrueNode, IsTrueMessage, made_in, initial_node, nothing, world_after}
use Rattle.rand_pcg.specs.Lcg.{Lcg}
use Rattle.turn_lock.specs.declared.kept.Turn.{Turn}
use Rattle.locked_node.specs.History.{CallEntry, History, LegalHistory}
use Rattle.laws.specs.Witnesses.{AllHaveWitnesses}

-- what a node began as
pub record Birth (H : Type 0) : Type 0 where
  pub hash : H
  pub config : Config
  pub own : ℕ
  pub incarnation : ℕ
  pub moment : ℕ
  pub generator : Lcg

-- the node that began so
abbrev pub created : {H : Type 0} → Birth H → Node H
created b = initial_node b.hash b.config b.own b.incarnation b.moment b.generator

-- the event that it begins
abbrev pub starts : {H : Type 0} → Birth H → WorldEvent H
starts b = Starts b.hash b.config b.own b.incarnation b.moment b.generator

-- a node that threads share: what it began as, the history of its calls, and what it is after them
pub record SharedNode {H : Type 0} (hash_of : H → List ℕ → ℕ) : Type 0 where
  pub birth : Birth H
  pub history : History H
  pub now : Node H
  pub legal : LegalHistory hash_of (created birth) history now

-- a call of the node at an address
pub record NodeCall (H : Type 0) : Type 0 where
  pub own : ℕ
  pub entry : CallEntry H

-- the calls of the node at this address, in their order
abbrev pub calls_at : {H : Type 0} → ℕ → List (NodeCall H) → List (CallEntry H)
calls_at {H} a calls = map (λ (c : NodeCall H). c.entry) (filter (λ (c : NodeCall H). c.own == a) calls)

-- the message that an answer makes; a view makes none
abbrev pub made_by : {H : Type 0} → Answer H → List Message
made_by (WithReply reply) = made_in reply
made_by (WithView result) = []

-- all messages that calls make, in their order
abbrev pub all_made : {H : Type 0} → List (NodeCall H) → List Message
all_made [] = []
all_made (c ∷ cs) = made_by c.entry.answer ++ all_made cs

-- what comes by a call was made before; nothing is taken that no message brought
abbrev pub ComesBy : List Message → Call → Type 0
ComesBy messages (OfEvent event) = Comes messages event
ComesBy messages OfView = Unit {0}

-- so it is for each of these calls, where these messages were made before the first
abbrev pub AllCome : {H : Type 0} → List Message → List (NodeCall H) → Type 0
AllCome messages [] = Unit {0}
AllCome messages (c ∷ cs) = ComesBy messages c.entry.call × AllCome (messages ++ made_by c.entry.answer) cs

-- a call as events of a world: a view is none
abbrev pub events_of_call : {H : Type 0} → ℕ → Call → Answer H → Node H → List (WorldEvent H)
events_of_call own (OfEvent event) (WithReply reply) after = Calls own event reply after ∷ []
events_of_call own call answer after = []

-- these calls as events
abbrev pub events_of_calls : {H : Type 0} → List (NodeCall H) → List (WorldEvent H)
events_of_calls [] = []
events_of_calls (c ∷ cs) = events_of_call c.own c.entry.call c.entry.answer c.entry.after ++ events_of_calls cs

module _ {H : Type 0} {hash_of : H → List ℕ → ℕ} where
  -- the address of a shared node
  abbrev pub address_of : SharedNode hash_of → ℕ
  address_of n = n.birth.own

  -- no two of these nodes have one address; so none starts again, since that would be another node at its address
  abbrev pub AreApart : List (SharedNode hash_of) → Type 0
  AreApart [] = Unit {0}
  AreApart (n ∷ ns) = (In (address_of n) (map address_of ns) → ⊥) × AreApart ns

  -- one order of all calls of these nodes: it has the history of each, and no other call; and each message that is received was made before
  pub record IsOrder (nodes : List (SharedNode hash_of)) (calls : List (NodeCall H)) : Type 0 where
    pub each : (n : SharedNode hash_of) → In n nodes → calls_at (address_of n) calls ≡ map (λ (t : Turn (CallEntry H)). t.entry) n.history
    pub no_other : (c : NodeCall H) → In c calls → In c.own (map address_of nodes)
    pub come : AllCome [] calls

  -- all nodes begin, and then the calls are made
  abbrev pub events_of : List (SharedNode hash_of) → List (NodeCall H) → List (WorldEvent H)
  events_of nodes calls = map (λ (n : SharedNode hash_of). starts n.birth) nodes ++ events_of_calls calls

  -- the world that these calls leave
  abbrev pub world_of : List (SharedNode hash_of) → List (NodeCall H) → World H
  world_of nodes calls = world_after nothing (events_of nodes calls)

  -- the calls are a run of a world, which leaves these nodes and no other, and the messages that the calls make
  pub record IsWorldRun (nodes : List (SharedNode hash_of)) (calls : List (NodeCall H)) : Type 0 where
    pub may : MayAllHappen hash_of nothing (events_of nodes calls)
    pub now : (n : SharedNode hash_of) → In n nodes → (world_of nodes calls).nodes (address_of n) ≡ Some n.now
    pub no_other : (a : ℕ) (node : Node H) → (world_of nodes calls).nodes a ≡ Some node → In a (map address_of nodes)
    pub messages : (world_of nodes calls).messages ≡ all_made calls

  -- what each node holds and each message tells was asserted by its address, or rests on that; and what is held against a member has a witness
  pub record TellTheTruth (nodes : List (SharedNode hash_of)) (calls : List (NodeCall H)) : Type 0 where
    pub held : (n : SharedNode hash_of) → In n nodes → IsTrueNode (world_of nodes calls).asserted (address_of n) n.now
    pub told : (m : Message) → In m (all_made calls) → IsTrueMessage (world_of nodes calls).asserted m
    pub witnessed : AllHaveWitnesses (events_of nodes calls)

-- the calls of shared nodes at different addresses are a run of a world, and what they hold and tell is true
abbrev pub SharedNodesAreWorlds : {H : Type 0} → (H → List ℕ → ℕ) → Type 0
SharedNodesAreWorlds {H} hash_of =
    (nodes : List (SharedNode hash_of)) (calls : List (NodeCall H)) → AreApart nodes → IsOrder nodes calls
    → IsWorldRun nodes calls × TellTheTruth nodes calls
