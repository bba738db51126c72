-- The result of a batch that is processed whole, as when it is another node's whole membership.
use Rattle.std.specs.Prelude.{◌≡◌, ◌≢◌, ℕ, ◌≤◌, List, ◌++◌, Some, Ok}
use Rattle.change_core.specs.declared.changes.Change.{Change}
use Rattle.change_core.specs.Members.{greatest, IsMemberList}
use Rattle.change_core.specs.Refutation.{refutation}
use Rattle.node_core.specs.declared.events.Taken.{Taken}
use Rattle.node_core.specs.Invariant.{IsNode}
use Rattle.node_core.specs.Log.{log_given, refuted}
use Rattle.node_core.specs.Messages.{full_sync}
use Rattle.node_core.specs.Node.{Node}
use Rattle.node_core.specs.Taking.{TakeStep}

-- of a membership at most one change is refuted; of every other address the greatest of both is left; of itself too unless it refuted, and else its refutation of the
-- change that it was given about itself
pub record TakesGreatest (own : ℕ) (log given : List Change) : Type 0 where
  pub refuted_once : IsMemberList given → refuted own log given ≤ 1
  pub of_others : (a : ℕ) → a ≢ own → greatest (log_given own log given) a ≡ greatest (log ++ given) a
  pub unrefuted : refuted own log given ≡ 0 → log_given own log given ≡ log ++ given
  pub of_itself : (held c : Change) → IsMemberList given → refuted own log given ≡ 1 → greatest log own ≡ Some held → greatest given own ≡ Some c
      → greatest (log_given own log given) own ≡ Some (refutation held c)

-- the members of a node after it took all that another holds and refuted at most one change of it: of every other address the greatest of
-- both memberships; of itself too if it refuted nothing, and else its refutation of the other's entry of it
pub record IsSynchronised {H : Type 0} (taker giver : Node H) (taken : Taken) (new : Node H) : Type 0 where
  pub refuted_once : taken.refuted ≤ 1
  pub of_others : (a : ℕ) → a ≢ taker.own → greatest new.members a ≡ greatest (taker.members ++ giver.members) a
  pub unrefuted : taken.refuted ≡ 0 → (a : ℕ) → greatest new.members a ≡ greatest (taker.members ++ giver.members) a
  pub of_itself : (held c : Change) → taken.refuted ≡ 1 → greatest taker.members taker.own ≡ Some held → greatest giver.members taker.own ≡ Some c
      → greatest new.members taker.own ≡ Some (refutation held c)

-- so it is of any two nodes, as they are between two calls, if the one took the whole membership of the other
abbrev pub NodesSynchronise : Type 0 → Type 0
NodesSynchronise H =
    (taker giver new : Node H) (moment : ℕ) (taken : Taken)
    → IsNode taker → IsNode giver → TakeStep taker (full_sync giver) moment (Ok taken) new → IsSynchronised taker giver taken new
