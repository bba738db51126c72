-- The parts of a call, each a relation of its result and its acts: one after the other, up to its answer or to its error.
use Rattle.std.specs.Prelude.{◌≡◌, ◌⊎◌, List, ◌++◌, Result, Ok, Err, IfErr}
use Rattle.node_core.specs.declared.errors.NodeError.{NodeError}
use Rattle.node_core.specs.declared.events.Event.{Event}
use Rattle.node_core.specs.declared.events.Reply.{Reply}
use Rattle.turn_lock.specs.declared.errors.LockError.{LockError}
use Rattle.locked_node.specs.declared.node.LockedNode.{LockedNode}
use Rattle.locked_node.specs.Passes.{NodePass, Refuses}
use Rattle.peer_core.specs.declared.errors.ClusterError.{ClusterError}
use Rattle.peer_core.specs.declared.hearing.Heard.{Heard}
use Rattle.peer_core.specs.Acts.{Act, OfActs, did, Just, Nothing, Then, Makes}
use Rattle.peer_core.specs.Errors.{error_of_lock, error_of_node}

-- the possible acts of a part, by its result
abbrev pub Part : Type 0 → Type 0 → Type 1
Part H A = Result A ClusterError → OfActs H

-- an error of the lock
abbrev pub IsOfLock : ClusterError → Type 0
IsOfLock e = (l : LockError) × (e ≡ error_of_lock l)

-- the result of a call whose only errors are the lock's
abbrev pub let_in : {A : Type 0} → Result A LockError → Result A ClusterError
let_in (Ok a) = Ok a
let_in (Err l) = Err (error_of_lock l)

-- the result of a call whose errors are the lock's and the node's
abbrev pub allowed : {A : Type 0} → Result (Result A NodeError) LockError → Result A ClusterError
allowed (Ok (Ok a)) = Ok a
allowed (Ok (Err n)) = Err (error_of_node n)
allowed (Err l) = Err (error_of_lock l)

-- the end of one step in a sequence: it continues from here, or has this result
pub data Turn (S A : Type 0) : Type 0 where
  onward : S → Turn S A
  ended : A → Turn S A

module _ {H : Type 0} where
  -- the node gave this answer to a call; or the lock refused it
  abbrev pub Calls : {A : Type 0} → Event → (A → Reply) → Part H A
  Calls event reply_of (Ok a) acts = Just (did event (reply_of a)) acts
  Calls event reply_of (Err e) acts = Nothing acts × IsOfLock e

  -- the same of a call that may be an error of the node: the error is the reply
  abbrev pub Tries : {A : Type 0} → Event → (Result A NodeError → Reply) → Part H A
  Tries event reply_of (Ok a) acts = Just (did event (reply_of (Ok a))) acts
  Tries event reply_of (Err e) acts =
      (Nothing acts × IsOfLock e) ⊎ ((n : NodeError) × Just (did event (reply_of (Err n))) acts × (e ≡ error_of_node n))

  -- another node was asked so, with this result; or the lock refused the call that makes the message
  abbrev pub Asks : (Heard → OfActs H) → Part H Heard
  Asks Asked (Ok heard) acts = Asked heard acts
  Asks Asked (Err e) acts = Nothing acts × IsOfLock e

  -- no act, and this answer
  abbrev pub Gives : {A : Type 0} → A → Part H A
  Gives a r acts = Nothing acts × (r ≡ Ok a)

  -- no act, and this error
  abbrev pub Fails : {A : Type 0} → ClusterError → Part H A
  Fails e r acts = Nothing acts × (r ≡ Err e)

  -- a part failed, and so does the part that contains it
  abbrev pub Stops : {A B : Type 0} → Part H A → Part H B
  Stops First (Ok b) acts = ⊥
  Stops First (Err e) acts = First (Err e) acts

  -- one part, and then the part for its answer; after an error, no other
  abbrev pub Next : {A B : Type 0} → Part H A → (A → Part H B) → Part H B
  Next {A} First Rest r acts = Stops First r acts ⊎ ((a : A) × Then (First (Ok a)) (Rest a r) acts)

  -- step after step, each from where the one before left it, up to the first that ends the sequence or fails
  pub data Until {S X A : Type 0} (Step : S → Part H X) (way : X → Turn S A) : S → Result A ClusterError → List (Act H) → Type 0 where
    ends : {s : S} {acts : List (Act H)} (x : X) (a : A) → Step s (Ok x) acts → way x ≡ ended a → Until Step way s (Ok a) acts
    stops : {s : S} {acts : List (Act H)} (e : ClusterError) → Step s (Err e) acts → Until Step way s (Err e) acts
    goes_on : {s : S} {r : Result A ClusterError} {first rest : List (Act H)} (x : X) (t : S)
        → Step s (Ok x) first → way x ≡ onward t → Until Step way t r rest → Until Step way s r (first ++ rest)

  -- if the error is the lock's, the lock refuses the pass as it is now
  abbrev pub Bars : LockedNode H → NodePass H → ClusterError → Type 0
  Bars locked pass e = (l : LockError) → e ≡ error_of_lock l → Refuses locked pass l

  -- By this pass the part was done, with this result. The pass can be used again.
  pub record Does {A : Type 0} (locked : LockedNode H) (P : Part H A) (r : Result A ClusterError) (old new : NodePass H) : Type 0 where
    pub makes : Makes locked (P r) old new
    pub barred : IfErr r (Bars locked new)
