-- A pass of a locked node, and the contract of a call by it.
use Rattle.std.specs.Prelude.{◌≡◌, ℕ, ◌+◌, ◌-◌, ◌^◌, List, [], ◌∷◌, ◌++◌, length, map}
use Rattle.std.specs.List.{All, range_with_len}
use Rattle.turn_lock.specs.declared.errors.CloseError.{CloseError}
use Rattle.turn_lock.specs.declared.errors.LockError.{LockError}
use Rattle.turn_lock.specs.declared.pass.Pass.{Pass}
use Rattle.turn_lock.specs.History.{turn, entries_of, GrownBy}
use Rattle.turn_lock.specs.Passes as lock
use Rattle.node_core.specs.Agreement.{IsNodeOf}
use Rattle.node_core.specs.declared.events.Event.{Event}
use Rattle.node_core.specs.declared.events.Reply.{Reply}
use Rattle.node_core.specs.Calls.{Call, OfEvent, Answer, WithReply, CallStep}
use Rattle.node_core.specs.Invariant.{IsSeen}
use Rattle.node_core.specs.Itself.{IsItself}
use Rattle.node_core.specs.Node.{Node, Seen}
use Rattle.locked_node.specs.declared.held.Held.{Held}
use Rattle.locked_node.specs.declared.node.LockedNode.{LockedNode}
use Rattle.locked_node.specs.History.{CallEntry, entry_of, History, LegalHistory, log_of}

-- a pass of the lock whose state is a node, and whose entries are its calls
abbrev pub NodePass : Type 0 → Type 0
NodePass H = Pass (Held H) (CallEntry H)

module _ {H : Type 0} where
  -- the node that it was made with
  abbrev pub opening_of : LockedNode H → Seen H
  opening_of locked = (lock.opening_of locked.lock).node

  -- the name that its passes have
  abbrev pub name_of : LockedNode H → ℕ
  name_of locked = lock.name_of locked.lock

  -- how many passes were made with it
  abbrev pub passes_of : LockedNode H → ℕ
  passes_of locked = lock.passes_of locked.lock

  -- if the pass has the node's name, it is this node's, and in no call
  abbrev pub Fits : LockedNode H → NodePass H → Type 0
  Fits locked p = lock.Fits locked.lock p

  -- the passes that are refused, and the error of each
  abbrev pub Refuses : LockedNode H → NodePass H → LockError → Type 0
  Refuses locked p e = lock.Refuses locked.lock p e

  -- all passes have the node's name
  abbrev pub AreOwn : LockedNode H → List (NodePass H) → Type 0
  AreOwn locked passes = lock.AreOwn locked.lock passes

  -- the passes with which the node is not closed, and the error of each
  abbrev pub RefusesToClose : LockedNode H → List (NodePass H) → CloseError → Type 0
  RefusesToClose locked passes e = lock.RefusesToClose locked.lock passes e

  -- a pass of the node that has seen nothing and may make `turns` calls
  abbrev pub IsNew : LockedNode H → ℕ → NodePass H → Type 0
  IsNew locked turns p = lock.IsNew locked.lock turns p

  -- they are all the passes that were made with the node, in the order of their numbers
  abbrev pub AreAll : LockedNode H → List (NodePass H) → Type 0
  AreAll locked passes = AreOwn locked passes × (map lock.number_of passes ≡ range_with_len 0 (passes_of locked))

  -- each has made no call, and may make the greatest number of calls
  abbrev pub AreFresh : LockedNode H → List (NodePass H) → Type 0
  AreFresh locked passes = All (IsNew locked (2 ^ 32 - 1)) passes

  -- It is the same pass, and these are the calls that it has made since, in as many turns.
  pub record Made (locked : LockedNode H) (old new : NodePass H) (entries : List (CallEntry H)) : Type 0 where
    pub same : lock.IsSamePass old new
    pub grown : GrownBy (lock.number_of old) entries (lock.seen new) (lock.seen old)
    pub calls : lock.calls_of new ≡ lock.calls_of old ++ entries
    pub turns : lock.left_of new + length entries ≡ lock.left_of old
    -- it can be used again
    pub fits : Fits locked old → Fits locked new

  -- The pass made this call, with this answer, in one history that is legal from the node's opening.
  pub record IsCalled (hash_of : H → List ℕ → ℕ) (locked : LockedNode H) (old new : NodePass H) (call : Call) (answer : Answer H) : Type 0 where
    -- the pass has the node's name
    pub named : lock.lock_name old ≡ name_of locked
    pub before : Node H
    pub after : Node H
    -- the calls of others since the pass was last in
    pub between : History H
    pub of_others : entries_of (lock.number_of old) between ≡ []
    -- the node satisfied its invariant at the opening, and is the same one after this call
    pub opened : IsSeen hash_of (opening_of locked)
    pub itself : IsItself (opening_of locked).node after
    -- all that the pass had seen is a prefix of the history before the call, which leaves the node that the call is made of
    pub legal_before : LegalHistory hash_of (opening_of locked).node (lock.seen old ++ between) before
    pub step : CallStep hash_of before call answer after
    -- with the call at its end it is what the pass has seen from then on
    pub seen_is : lock.seen new ≡ (lock.seen old ++ between) ++ turn (lock.number_of old) (entry_of call answer after) ∷ []
    pub legal : LegalHistory hash_of (opening_of locked).node (lock.seen new) after
    -- it is the one call that the pass has made since
    pub made : Made locked old new (entry_of call answer after ∷ [])

  -- the pass made the call that an event names, and the event's reply was returned
  abbrev pub IsAnswered : {R : Type 0} → (H → List ℕ → ℕ) → LockedNode H → NodePass H → NodePass H → Event → (R → Reply) → R → Type 0
  IsAnswered hash_of locked old new event reply r = IsCalled hash_of locked old new (OfEvent event) (WithReply (reply r))

  -- the pass is refused, and is unchanged
  abbrev pub IsBarred : LockedNode H → NodePass H → NodePass H → LockError → Type 0
  IsBarred locked old new e = (new ≡ old) × Refuses locked old e

  -- The node after one legal history of all calls of these passes.
  pub record IsClosed (hash_of : H → List ℕ → ℕ) (locked : LockedNode H) (passes : List (NodePass H)) (now : Seen H) : Type 0 where
    pub history : History H
    pub legal : LegalHistory hash_of (opening_of locked).node history now.node
    -- the node satisfied its invariant at the opening, still does, and is the same one
    pub opened : IsSeen hash_of (opening_of locked)
    pub whole_still : IsSeen hash_of now
    pub itself : IsItself (opening_of locked).node now.node
    -- each pass has seen a prefix of it; it has the calls of each, once and in their order, and no other
    pub whole : lock.IsWhole history passes
    -- the node holds the result of the history's log
    pub is_log : IsNodeOf hash_of now (log_of (opening_of locked).node history)

-- two steps of a pass, one after the other, are one: the calls of both in turn
abbrev pub MadeInTurn : Type 0 → Type 0
MadeInTurn H =
    (locked : LockedNode H) (old mid new : NodePass H) (es fs : List (CallEntry H)) → Made locked old mid es → Made locked mid new fs → Made locked old new (es ++ fs)

-- all that the pass has seen is a history that is legal from the node's opening
abbrev pub HasSeenLegal : {H : Type 0} → (H → List ℕ → ℕ) → LockedNode H → NodePass H → Type 0
HasSeenLegal {H} hash_of locked p = (last : Node H) × LegalHistory hash_of (opening_of locked).node (lock.seen p) last

-- a call that is made shows this of the given pass, whatever made it so
abbrev pub CallsShowLegal : {H : Type 0} → (H → List ℕ → ℕ) → Type 0
CallsShowLegal {H} hash_of =
    (locked : LockedNode H) (old new : NodePass H) (call : Call) (answer : Answer H) → IsCalled hash_of locked old new call answer → HasSeenLegal hash_of locked old

-- and closing shows it of every pass
abbrev pub ClosingShowsLegal : {H : Type 0} → (H → List ℕ → ℕ) → Type 0
ClosingShowsLegal {H} hash_of =
    (locked : LockedNode H) (passes : List (NodePass H)) (now : Seen H) → IsClosed hash_of locked passes now → All (HasSeenLegal hash_of locked) passes
