-- Nodes whose messages may be late, lost, repeated and in any order.
use Rattle.std.specs.Prelude.{◌≡◌, ℕ, Bool, true, ◌==◌, cond, List, [], ◌∷◌, map, Some}
use Rattle.change_core.specs.declared.changes.Change.{Change}
use Rattle.node_core.specs.Node.{Node}
use Rattle.node_core.specs.World.{placed_at}
use Rattle.laws.specs.Convergence.{Nodes, IsThere, AreNodes, Takes, GathersThenBroadcasts, HaveConverged}
use Rattle.laws.specs.Spreading.{Hop}

-- a place of changes: a node, by its address, or a message, by its number
pub data Place : Type 0 where
  AtNode : ℕ → Place
  InMessage : ℕ → Place

-- the nodes, and the changes that each message carries: none before it is sent
pub record Network (H : Type 0) : Type 0 where
  pub nodes : Nodes H
  pub messages : ℕ → List Change

-- a node sends a message that carries all its members; a message is delivered to a node, which takes the whole of it or only a part. A
-- message may be delivered to any node, at any time and again, or never
pub data NetworkEvent : Type 0 where
  Sends : (sender message : ℕ) → NetworkEvent
  Delivers : (message receiver : ℕ) (whole : Bool) → NetworkEvent

-- an event as a hop: from a node to a message, or from a message to a node
abbrev pub hop_of : NetworkEvent → Hop Place
hop_of (Sends sender message) = record { taker = InMessage message; giver = AtNode sender; whole = true }
hop_of (Delivers message receiver whole) = record { taker = AtNode receiver; giver = InMessage message; whole = whole }

-- the messages with this one, which carries these changes
abbrev pub with_message : ℕ → List Change → (ℕ → List Change) → ℕ → List Change
with_message message told messages n = cond (n == message) told (messages n)

-- a node sends a message under a number that is new
pub record SendStep {H : Type 0} (before : Network H) (sender message : ℕ) (after : Network H) : Type 0 where
  pub node : Node H
  pub node_is : before.nodes sender ≡ Some node
  pub is_new : before.messages message ≡ []
  pub nodes_stay : after.nodes ≡ before.nodes
  pub messages_are : after.messages ≡ with_message message node.members before.messages

-- a message is delivered to a node
pub record DeliveryStep {H : Type 0} (before : Network H) (message receiver : ℕ) (whole : Bool) (after : Network H) : Type 0 where
  pub node : Node H
  pub new : Node H
  pub node_is : before.nodes receiver ≡ Some node
  pub takes : Takes whole node (before.messages message) new
  pub nodes_are : after.nodes ≡ placed_at receiver new before.nodes
  pub messages_stay : after.messages ≡ before.messages

-- one event leads from this network to that
abbrev pub NetworkStep : {H : Type 0} → Network H → NetworkEvent → Network H → Type 0
NetworkStep before (Sends sender message) after = SendStep before sender message after
NetworkStep before (Delivers message receiver whole) after = DeliveryStep before message receiver whole after

-- these events, one after another, lead from this network to that
abbrev pub NetworkRun : {H : Type 0} → Network H → List NetworkEvent → Network H → Type 0
NetworkRun before [] after = after ≡ before
NetworkRun {H} before (e ∷ es) after = (between : Network H) × NetworkStep before e between × NetworkRun between es after

-- nodes of a network without messages under way converge in any events in which each gathers from all and then broadcasts to all
abbrev pub NetworksConverge : Type 0 → Type 0
NetworksConverge H =
    (before after : Network H) (events : List NetworkEvent) → AreNodes before.nodes → ((m : ℕ) → before.messages m ≡ []) → NetworkRun before events after
    → ((a : ℕ) → IsThere before.nodes a → GathersThenBroadcasts AtNode before.nodes (map hop_of events) a) → HaveConverged before.nodes after.nodes
