-- The calls of a node that others keep a history of: an event, or the making of a view.
use Rattle.std.specs.Prelude.{◌≡◌, ℕ, Result, List}
use Rattle.node_core.specs.declared.errors.NodeError.{NodeError}
use Rattle.node_core.specs.declared.events.Event.{Event}
use Rattle.node_core.specs.declared.events.Reply.{Reply}
use Rattle.node_core.specs.Invariant.{IsNode}
use Rattle.node_core.specs.Node.{Node}
use Rattle.node_core.specs.Step.{Answers, NodeStep}
use Rattle.node_core.specs.Viewing.{Viewed, view_of}

-- a call: an event, or the making of a view
pub data Call : Type 0 where
  OfEvent : Event → Call
  OfView : Call

-- the answer to a call
pub data Answer (H : Type 0) : Type 0 where
  WithReply : Reply → Answer H
  WithView : Result (Viewed H) NodeError → Answer H

-- from old, the node may give this answer to the call and become new: to an event as a node does; a view is of the node as it is, and
-- changes nothing
abbrev pub CallStep : {H : Type 0} → (H → List ℕ → ℕ) → Node H → Call → Answer H → Node H → Type 0
CallStep hash_of old (OfEvent event) (WithReply reply) new = NodeStep hash_of old event reply new
CallStep hash_of old OfView (WithView result) new = Answers (view_of old) result × (new ≡ old)
-- no other answer is given
CallStep hash_of old call answer new = ⊥

-- every such call keeps what holds of a node between any two calls
abbrev pub AllCallsKeepIt : {H : Type 0} → (H → List ℕ → ℕ) → Type 0
AllCallsKeepIt {H} hash_of = (old new : Node H) (call : Call) (answer : Answer H) → IsNode old → CallStep hash_of old call answer new → IsNode new
