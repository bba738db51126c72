-- The effect of given changes on a node: which alter an entry, which are refuted, and at which a batch stops.
use Rattle.std.specs.Prelude.{◌≡◌, ℕ, ◌==◌, ◌&&◌, Bool, not, nat_lt, cond, Option, Some, None, Result, Ok, Err, List, [], ◌∷◌, length, map, take, slice_get, is_none, IfSome}
use Rattle.change_core.specs.declared.changes.Change.{Change}
use Rattle.change_core.specs.declared.changes.Sourced.{Sourced}
use Rattle.change_core.specs.Change.{change_of}
use Rattle.change_core.specs.Members.{greatest, alters}
use Rattle.change_core.specs.Numbers.{greatest_number}
use Rattle.change_core.specs.Refutation.{is_refuted, refutation}
use Rattle.node_core.specs.declared.events.Taken.{Taken}
use Rattle.node_core.specs.declared.events.Stopped.{Stopped}
use Rattle.node_core.specs.declared.events.StopCause.{StopCause}
use Rattle.node_core.specs.declared.events.StopCause.TheVariants.{Exhausted, Full, Memory}
use Rattle.node_core.specs.declared.taking.Effect.{Effect}
use Rattle.node_core.specs.declared.taking.Effect.TheVariants.{Unaltered, Applied, Refuted}
use Rattle.node_core.specs.Log.{applied, one_if, refuted}
use Rattle.node_core.specs.Node.{Node, altered, asserted_by, at_moment, own_change}
use Rattle.node_core.specs.Room.{WantsRoom}

-- the alteration that a given change makes: the node's refutation, the change itself, or none
abbrev pub alteration : {H : Type 0} → Node H → Sourced → Option Sourced
alteration node s =
    cond (is_refuted node.own (greatest node.members node.own) s.change)
    (Some (asserted_by node.own (refutation (own_change node) s.change)))
    (cond (alters (greatest node.members s.change.address) s.change) (Some s) None)

-- the node after an alteration, if there is one
abbrev pub altered_by : {H : Type 0} → Node H → Option Sourced → Node H
altered_by node None = node
altered_by node (Some s) = altered node s

-- the node after one given change
abbrev pub took : {H : Type 0} → Node H → Sourced → Node H
took node s = altered_by node (alteration node s)

-- the node after these changes, one after another
abbrev pub took_all : {H : Type 0} → Node H → List Sourced → Node H
took_all node [] = node
took_all node (s ∷ ss) = took_all (took node s) ss

-- the cause for which a given change is refused: it calls for a refutation and its incarnation is the greatest, or for an entry past the
-- greatest number of them
abbrev pub refusal : {H : Type 0} → Node H → Change → Option StopCause
refusal node c =
    cond (is_refuted node.own (greatest node.members node.own) c && not (nat_lt c.incarnation greatest_number))
    (Some Exhausted)
    (cond (is_none (greatest node.members c.address) && (length node.members == node.config.max_members)) (Some Full) None)

-- none of these is refused, processed one after another
abbrev pub NoneRefused : {H : Type 0} → Node H → List Sourced → Type 0
NoneRefused node [] = Unit {0}
NoneRefused node (s ∷ ss) = (refusal node s.change ≡ None) × NoneRefused (took node s) ss

-- a batch may stop here for this cause: out of memory only if the change is not refused and alters an entry
abbrev pub StopsFor : {H : Type 0} → Node H → Sourced → StopCause → Type 0
StopsFor node s Exhausted = refusal node s.change ≡ Some Exhausted
StopsFor node s Full = refusal node s.change ≡ Some Full
StopsFor node s Memory = (refusal node s.change ≡ None) × (is_none (alteration node s) ≡ Bool.false)

-- every change of the batch is processed
pub record TakesAll {H : Type 0} (old : Node H) (given : List Sourced) (taken : Taken) (new : Node H) : Type 0 where
  pub none_refused : NoneRefused old given
  pub applied_is : taken.applied ≡ applied old.own old.members (map change_of given)
  pub refuted_is : taken.refuted ≡ refuted old.own old.members (map change_of given)
  pub new_is : new ≡ took_all old given

-- the first ones are processed, and the next stops the batch
pub record TakesFirst {H : Type 0} (old : Node H) (given : List Sourced) (stopped : Stopped) (new : Node H) : Type 0 where
  pub next : Sourced
  pub next_is : slice_get given stopped.taken ≡ Some next
  pub none_refused : NoneRefused old (take stopped.taken given)
  pub stops : StopsFor (took_all old (take stopped.taken given)) next stopped.cause
  pub new_is : new ≡ took_all old (take stopped.taken given)

-- the given changes that a batch took: all, or those before the one that stopped it
abbrev pub taken_of : List Sourced → Result Taken Stopped → List Change
taken_of given (Ok taken) = map change_of given
taken_of given (Err stopped) = take stopped.taken (map change_of given)

-- a batch is processed whole, or up to the change that stops it, from the given moment
abbrev pub TakeStep : {H : Type 0} → Node H → List Sourced → ℕ → Result Taken Stopped → Node H → Type 0
TakeStep old given moment (Ok taken) new = TakesAll (at_moment old moment) given taken new
TakeStep old given moment (Err stopped) new = TakesFirst (at_moment old moment) given stopped new

-- what a given change would alter wants room
abbrev pub WantsRoomFor : {H : Type 0} → Node H → Sourced → Type 0
WantsRoomFor node given = IfSome (alteration node given) (λ s. WantsRoom node s.change)

-- a batch stops for lack of memory only at a change that wants room of the node as the batch leaves it
abbrev pub StopsForRoom : {H : Type 0} → Node H → List Sourced → Stopped → Type 0
StopsForRoom new given stopped = stopped.cause ≡ Memory → (next : Sourced) → slice_get given stopped.taken ≡ Some next → WantsRoomFor new next

-- 1 if a given change altered an entry, itself or by its refutation, and else 0
abbrev pub altered_in : Effect → ℕ
altered_in Unaltered = 0
altered_in Applied = 1
altered_in Refuted = 1

-- 1 where it was refuted, and else 0
abbrev pub refuted_by : Effect → ℕ
refuted_by Unaltered = 0
refuted_by Applied = 0
refuted_by Refuted = 1

-- one given change is processed, with this effect: nothing, an alteration, or a refutation
pub record TakesOne {H : Type 0} (old : Node H) (s : Sourced) (effect : Effect) (new : Node H) : Type 0 where
  pub none_refused : refusal old s.change ≡ None
  pub applied_is : altered_in effect ≡ one_if (alters (greatest old.members s.change.address) s.change)
  pub refuted_is : refuted_by effect ≡ one_if (is_refuted old.own (greatest old.members old.own) s.change)
  pub new_is : new ≡ took old s

-- one given change stops a batch for this cause, and does nothing
pub record StopsOne {H : Type 0} (old : Node H) (s : Sourced) (cause : StopCause) (new : Node H) : Type 0 where
  pub stops : StopsFor old s cause
  pub same : new ≡ old
