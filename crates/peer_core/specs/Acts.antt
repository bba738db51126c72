-- The calls that a pass made of a node, in their order, each with its answer.
use Rattle.std.specs.Prelude.{◌≡◌, ℕ, ◌+◌, Result, List, [], ◌∷◌, ◌++◌, map}
use Rattle.node_core.specs.declared.errors.NodeError.{NodeError}
use Rattle.node_core.specs.declared.events.Event.{Event}
use Rattle.node_core.specs.declared.events.Reply.{Reply}
use Rattle.node_core.specs.Calls.{Call, OfEvent, OfView, Answer, WithReply, WithView}
use Rattle.node_core.specs.Viewing.{Viewed}
use Rattle.locked_node.specs.declared.node.LockedNode.{LockedNode}
use Rattle.locked_node.specs.History.{CallEntry}
use Rattle.locked_node.specs.Passes.{NodePass, Made}

-- a call and its answer
abbrev pub Act : Type 0 → Type 0
Act H = Call × Answer H

-- a property of acts
abbrev pub OfActs : Type 0 → Type 1
OfActs H = List (Act H) → Type 0

module _ {H : Type 0} where
  -- the node was asked this, and replied so
  abbrev pub did : Event → Reply → Act H
  did event reply = (OfEvent event, WithReply reply)

  -- the node was asked for a view, and answered so
  abbrev pub looked : Result (Viewed H) NodeError → Act H
  looked result = (OfView, WithView result)

  -- this act and no other
  abbrev pub Just : Act H → OfActs H
  Just act acts = acts ≡ act ∷ []

  -- no act at all
  abbrev pub Nothing : OfActs H
  Nothing acts = acts ≡ []

  -- acts that satisfy the first, and then acts that satisfy the other
  abbrev pub Then : OfActs H → OfActs H → OfActs H
  Then First Next acts = (first next : List (Act H)) × (acts ≡ first ++ next) × First first × Next next

  -- the calls of entries of the history, each with its answer
  abbrev pub acts_of : List (CallEntry H) → List (Act H)
  acts_of entries = map (λ (e : CallEntry H). (e.call, e.answer)) entries

  -- The pass made calls that satisfy this, and can be used again.
  pub record Makes (locked : LockedNode H) (So : OfActs H) (old new : NodePass H) : Type 0 where
    pub entries : List (CallEntry H)
    pub made : Made locked old new entries
    pub so : So (acts_of entries)

  -- acts of one kind this number of times, and no others, each from the state of something, as a handler, in which the one before left it
  pub data Chain {A : Type 0} (One : A → A → OfActs H) : ℕ → A → A → List (Act H) → Type 0 where
    none : {s : A} → Chain One 0 s s []
    more : {n : ℕ} {r s t : A} {acts next : List (Act H)} → Chain One n r s acts → One s t next → Chain One (n + 1) r t (acts ++ next)

  -- the same of acts without a state
  abbrev pub Times : OfActs H → ℕ → OfActs H
  Times One n acts = Chain (λ (was is : Unit {0}). One) n tt tt acts
