-- The history of a node that threads share: its calls, in the order of their turns.
use Rattle.std.specs.Prelude.{◌≡◌, ℕ, Option, Some, None, List, [], ◌∷◌}
use Rattle.std.specs.List.{filter_map}
use Rattle.change_core.specs.declared.changes.Change.{Change}
use Rattle.node_core.specs.declared.events.Event.{Event}
use Rattle.node_core.specs.declared.events.Reply.{Reply}
use Rattle.node_core.specs.Calls.{Call, OfEvent, OfView, Answer, WithReply, WithView, CallStep}
use Rattle.node_core.specs.Invariant.{IsNode, IsSeen}
use Rattle.node_core.specs.Node.{Node, Seen}
use Rattle.node_core.specs.Run.{log}
use Rattle.turn_lock.specs.declared.kept.Turn.{Turn}

-- one call, its answer, and the node after it
pub record CallEntry (H : Type 0) : Type 0 where
  pub call : Call
  pub answer : Answer H
  pub after : Node H

-- the entry of this call, with this answer and this node after it
abbrev pub entry_of : {H : Type 0} → Call → Answer H → Node H → CallEntry H
entry_of call answer after = record { call = call; answer = answer; after = after }

-- the calls of all passes, in the order of their turns, each with the number of its pass
abbrev pub History : Type 0 → Type 0
History H = List (Turn (CallEntry H))

-- each call is a step of the node from the one before it, and the last leaves this node
abbrev pub LegalHistory : {H : Type 0} → (H → List ℕ → ℕ) → Node H → History H → Node H → Type 0
LegalHistory hash_of opening [] last = last ≡ opening
LegalHistory hash_of opening (t ∷ ts) last =
    CallStep hash_of opening t.entry.call t.entry.answer t.entry.after × LegalHistory hash_of t.entry.after ts last

-- before each of these calls the node is as a node is between any two, and so it is after the last
abbrev pub IsKeptThrough : {H : Type 0} → Node H → History H → Type 0
IsKeptThrough node [] = IsNode node
IsKeptThrough node (t ∷ ts) = IsNode node × IsKeptThrough t.entry.after ts

-- a legal history keeps what holds of its opening
abbrev pub HistoriesKeepIt : {H : Type 0} → (H → List ℕ → ℕ) → Type 0
HistoriesKeepIt {H} hash_of =
    (opening last : Node H) (history : History H) → IsNode opening → LegalHistory hash_of opening history last → IsKeptThrough opening history × IsNode last

-- the node represents a history that is legal from the opening, which satisfied a node's invariant
abbrev pub StandsFor : {H : Type 0} → (H → List ℕ → ℕ) → Seen H → History H → Seen H → Type 0
StandsFor hash_of opening history now = IsSeen hash_of opening × LegalHistory hash_of opening.node history now.node

-- the event of a call; a view has none
abbrev pub event_in : Call → Option Event
event_in (OfEvent event) = Some event
event_in OfView = None

-- the reply of an answer; a view has none
abbrev pub reply_in : {H : Type 0} → Answer H → Option Reply
reply_in (WithReply reply) = Some reply
reply_in (WithView result) = None

-- the log of a node with this opening, after a history: the changes of the calls, in their order; a view changes nothing
abbrev pub log_of : {H : Type 0} → Node H → History H → List Change
log_of {H} opening history =
    log opening.own opening.members
    (filter_map (λ (t : Turn (CallEntry H)). event_in t.entry.call) history)
    (filter_map (λ (t : Turn (CallEntry H)). reply_in t.entry.answer) history)
