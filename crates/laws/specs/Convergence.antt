-- Any number of nodes that exchange what they hold, and what is enough for all to hold the same. That it is enough is this project's own theorem.
use Rattle.std.specs.Prelude.{◌≡◌, ◌≢◌, ◌↔◌, ℕ, Bool, true, List, [], ◌∷◌, ◌++◌, Option, Some, None}
use Rattle.std.specs.List.{Contains}
use Rattle.change_core.specs.declared.changes.Change.{Change}
use Rattle.change_core.specs.Ascending.{In}
use Rattle.change_core.specs.Change.{Exceeds}
use Rattle.change_core.specs.Members.{greatest, members}
use Rattle.node_core.specs.declared.events.Event.{Event}
use Rattle.node_core.specs.declared.events.Reply.{Reply}
use Rattle.node_core.specs.Agreement.{Agree}
use Rattle.node_core.specs.Invariant.{IsNode, IsSeen}
use Rattle.node_core.specs.Log.{log_given}
use Rattle.node_core.specs.Node.{Node, Seen, asserts, own_change}
use Rattle.node_core.specs.Run.{given_in, said_in}
use Rattle.node_core.specs.Step.{NodeStep}
use Rattle.node_core.specs.World.{placed_at}
use Rattle.laws.specs.Spreading.{Hop, Reaches}

-- the nodes of a cluster, by address
abbrev pub Nodes : Type 0 → Type 0
Nodes H = ℕ → Option (Node H)

-- there is a node at this address
abbrev pub IsThere : {H : Type 0} → Nodes H → ℕ → Type 0
IsThere {H} nodes a = (node : Node H) × (nodes a ≡ Some node)

-- each node is at its own address, and is as a node is between two calls
pub record AreNodes {H : Type 0} (nodes : Nodes H) : Type 0 where
  pub own : (a : ℕ) (node : Node H) → nodes a ≡ Some node → node.own ≡ a
  pub kept : (a : ℕ) (node : Node H) → nodes a ≡ Some node → IsNode node

-- of the address of each of these changes the node holds one that the change does not exceed
abbrev pub HoldsNoLess : {H : Type 0} → Node H → List Change → Type 0
HoldsNoLess node cs = (c : Change) → Contains cs c → (held : Change) × (greatest node.members c.address ≡ Some held) × (Exceeds c held → ⊥)

-- the taker merges some of the changes that it is given, with its refutations of them, and stays itself; it takes the whole only if it then holds no less than it is given
pub record Takes {H : Type 0} (whole : Bool) (taker : Node H) (given : List Change) (new : Node H) : Type 0 where
  pub taken : List Change
  pub of_given : (c : Change) → Contains taken c → Contains given c
  pub covers : whole ≡ true → HoldsNoLess new given
  pub members_are : new.members ≡ members (log_given taker.own taker.members taken)
  pub own_stays : new.own ≡ taker.own
  pub kept : IsNode new

-- every call that makes no new change merges the changes that it counts as taken, and only these; most calls count none
abbrev pub CallsTake : {H : Type 0} → (H → List ℕ → ℕ) → Type 0
CallsTake {H} hash_of =
    (old new : Node H) (event : Event) (reply : Reply) → IsNode old → NodeStep hash_of old event reply new → said_in reply ≡ [] → Takes true old (given_in event reply) new

-- an exchange is a hop between addresses: the node at one takes the members of the node at the other
abbrev pub Exchange : Type 0
Exchange = Hop ℕ

-- one exchange leads from these nodes to those: only the taker changes
pub record ExchangeStep {H : Type 0} (before : Nodes H) (e : Exchange) (after : Nodes H) : Type 0 where
  pub taker : Node H
  pub giver : Node H
  pub new : Node H
  pub taker_is : before e.taker ≡ Some taker
  pub giver_is : before e.giver ≡ Some giver
  pub takes : Takes e.whole taker giver.members new
  pub after_is : after ≡ placed_at e.taker new before

-- these exchanges, one after another, lead from these nodes to those
abbrev pub ExchangeRun : {H : Type 0} → Nodes H → List Exchange → Nodes H → Type 0
ExchangeRun before [] after = after ≡ before
ExchangeRun {H} before (e ∷ es) after = (between : Nodes H) × ExchangeStep before e between × ExchangeRun between es after

-- the node at this address first gathers from all nodes, and then broadcasts to all: the hops have a first part in which a path leads to it from each, and in the rest one from it to each
pub record GathersThenBroadcasts {H P : Type 0} (home : ℕ → P) (nodes : Nodes H) (hops : List (Hop P)) (a : ℕ) : Type 0 where
  pub first : List (Hop P)
  pub rest : List (Hop P)
  pub parts : hops ≡ first ++ rest
  pub gathers : (b : ℕ) → IsThere nodes b → Reaches (home b) first (home a)
  pub broadcasts : (b : ℕ) → IsThere nodes b → Reaches (home a) rest (home b)

-- one of the nodes holds this change of the address, and none holds one that exceeds it
pub record IsGreatestHeld {H : Type 0} (nodes : Nodes H) (a : ℕ) (c : Change) : Type 0 where
  pub holder : ℕ
  pub node : Node H
  pub there : nodes holder ≡ Some node
  pub held : greatest node.members a ≡ Some c
  pub highest : (b : ℕ) (other : Node H) (d : Change) → nodes b ≡ Some other → greatest other.members a ≡ Some d → Exceeds d c → ⊥

-- the nodes have converged: the same nodes are there, and all hold the same members
pub record HaveConverged {H : Type 0} (before after : Nodes H) : Type 0 where
  pub nodes_stay : (a : ℕ) → IsThere before a ↔ IsThere after a
  pub members_same : (a b : ℕ) (x y : Node H) → after a ≡ Some x → after b ≡ Some y → x.members ≡ y.members
  -- of each node they hold what it holds of itself: that it is alive or has left, as it held before, so no rumour against it is left
  pub of_nodes : (a b : ℕ) (x y : Node H) → after a ≡ Some x → after b ≡ Some y → greatest y.members a ≡ Some (own_change x)
  pub status_stays : (a : ℕ) (old x : Node H) → before a ≡ Some old → after a ≡ Some x → (own_change x).status ≡ (own_change old).status
  pub asserted : (a : ℕ) (x : Node H) → after a ≡ Some x → asserts (own_change x).status ≡ true
  -- of every other address they hold the greatest change that any held before, or nothing if none did
  pub of_others : (x a : ℕ) (node : Node H) (c : Change) → before x ≡ None → after a ≡ Some node → (greatest node.members x ≡ Some c) ↔ IsGreatestHeld before x c

-- in exchanges the place of a node is its address
abbrev pub at_itself : ℕ → ℕ
at_itself a = a

-- nodes converge in any list of exchanges in which each gathers from all and then broadcasts to all
abbrev pub NodesConverge : Type 0 → Type 0
NodesConverge H =
    (before after : Nodes H) (es : List Exchange) → AreNodes before → ExchangeRun before es after
    → ((a : ℕ) → IsThere before a → GathersThenBroadcasts at_itself before es a) → HaveConverged before after

-- in a sweep each node takes the whole of each other, in any order
abbrev pub IsSweep : {H : Type 0} → Nodes H → List Exchange → Type 0
IsSweep nodes es = (a b : ℕ) → IsThere nodes a → IsThere nodes b → a ≢ b → In (record { taker = a; giver = b; whole = true }) es

-- nodes converge in two sweeps
abbrev pub SweepsConverge : Type 0 → Type 0
SweepsConverge H =
    (before after : Nodes H) (first second : List Exchange) → AreNodes before → ExchangeRun before (first ++ second) after
    → IsSweep before first → IsSweep before second → HaveConverged before after

-- converged nodes with one hash and one number of replica points agree: on members, digest, servers, points and the owners of every key
abbrev pub ConvergedAgree : {H : Type 0} → (H → List ℕ → ℕ) → Type 0
ConvergedAgree {H} hash_of =
    (before after : Nodes H) (a b : ℕ) (x y : Seen H) → HaveConverged before after → after a ≡ Some x.node → after b ≡ Some y.node
    → IsSeen hash_of x → IsSeen hash_of y → x.node.hash ≡ y.node.hash → x.node.config.replicas ≡ y.node.config.replicas → Agree hash_of x y
