-- The model of a node's membership, the verdict on a change, and the effect of a commit. That a node refutes a wrong change about itself by
-- a greater incarnation is SWIM (DSN 2002, section 4.2), and that it may hold itself as leave is ringpop-go, package swim. The verdicts,
-- weights and limits are this project's.
use Rattle.std.specs.Prelude.{◌≡◌, ℕ, ◌<◌, ◌≤◌, cond, ◌==◌, nat_lt, ◌&&◌, List, [], ◌∷◌, ◌++◌, Some, None, length, is_none}
use Rattle.change_core.specs.declared.changes.Change.{Change}
use Rattle.change_core.specs.declared.changes.Sourced.{Sourced}
use Rattle.change_core.specs.declared.statuses.Status.{Status}
use Rattle.change_core.specs.declared.statuses.Status.TheVariants.{Alive, Suspect, Faulty, Leave, Tombstone}
use Rattle.change_core.specs.Numbers.{greatest_number, most_members}
use Rattle.change_core.specs.Status.{rank}
use Rattle.change_core.specs.Change.{Overrides, exceeds}
use Rattle.change_core.specs.Refutation.{refutation}
use Rattle.change_core.specs.Members.{greatest, members, is_news, IsMemberList}
use Rattle.member_core.specs.declared.verdicts.Verdict.{Verdict}
use Rattle.member_core.specs.declared.verdicts.Verdict.TheVariants.{Old, Take, Refute, Exhausted, Full}

-- the node's own entry, all members with it, their greatest number, and for how many more there is room without an allocation
pub record Membership : Type 0 where
  pub own : Change
  pub members : List Change
  pub max : ℕ
  pub room : ℕ

-- a node holds itself as alive or leave
abbrev pub IsOwnStatus : Status → Type 0
IsOwnStatus Alive = Unit {0}
IsOwnStatus Suspect = ⊥
IsOwnStatus Faulty = ⊥
IsOwnStatus Leave = Unit {0}
IsOwnStatus Tombstone = ⊥

-- a member list of at most max members that holds the node itself as alive or leave
pub record IsMembership (own : Change) (members : List Change) (max : ℕ) : Type 0 where
  pub sorted : IsMemberList members
  pub holds_itself : greatest members own.address ≡ Some own
  pub alive_or_leave : IsOwnStatus own.status
  pub fits : length members ≤ max
  pub positive : 1 ≤ max
  pub limited : max ≤ most_members

-- the first change about a node, which it makes itself: alive, at its starting incarnation, with its weight
abbrev pub birth : ℕ → ℕ → ℕ → Change
birth own incarnation weight = record { address = own; incarnation = incarnation; status = Alive; weight = weight }

-- a change about the node itself: old unless it exceeds the node's own entry; taken if it has the node's own status, whatever its weight;
-- else refuted while an incarnation is left
abbrev pub judged_own : Change → Change → Verdict
judged_own own c =
    cond (exceeds c own) (cond (rank c.status == rank own.status) (Take c) (cond (nat_lt c.incarnation greatest_number) (Refute c (refutation own c)) Exhausted)) Old

-- a change about another: old unless it exceeds the current entry; else taken, unless its address is unknown and there is no room
abbrev pub judged_other : List Change → ℕ → Change → Verdict
judged_other ms max c = cond (is_news ms c) (cond (is_none (greatest ms c.address) && (length ms == max)) Full (Take c)) Old

-- the verdict on a change
abbrev pub judged : Membership → Change → Verdict
judged m c = cond (c.address == m.own.address) (judged_own m.own c) (judged_other m.members m.max c)

-- the entries that a verdict writes
abbrev pub put_in : Verdict → List Change
put_in Old = []
put_in (Take c) = c ∷ []
put_in (Refute given next) = given ∷ next ∷ []
put_in Exhausted = []
put_in Full = []

-- the node's own entry after a change is written
abbrev pub own_after : Change → Change → Change
own_after own c = cond (c.address == own.address) c own

-- the node's own entry after a commit: the change that was applied to the node itself, or its refutation
abbrev pub own_committed : Change → Verdict → Change
own_committed own Old = own
own_committed own (Take c) = own_after own c
own_committed own (Refute given next) = next
own_committed own Exhausted = own
own_committed own Full = own

-- a membership after its own entry became this one and these changes were written, with the room that is left
abbrev pub after_put : Membership → Change → List Change → ℕ → Membership
after_put m own cs room = record { own = own; members = members (m.members ++ cs); max = m.max; room = room }

-- the verdict is the present one and alters an entry, for which there is room
abbrev pub CanCommit : Membership → Verdict → Type 0
CanCommit m Old = ⊥
CanCommit m (Take c) = (judged m c ≡ Take c) × (greatest m.members c.address ≡ None → 0 < m.room)
CanCommit m (Refute given next) = judged m given ≡ Refute given next
CanCommit m Exhausted = ⊥
CanCommit m Full = ⊥

-- a change about the node itself that it makes itself, to leave or to come back
pub record IsOwnAssertion (own c : Change) : Type 0 where
  pub overrides : Overrides c own
  pub alive_or_leave : IsOwnStatus c.status

-- a change with the node itself as its source
abbrev pub said_by : Change → Change → Sourced
said_by own c = record { change = c; source = own.address; source_incarnation = own.incarnation }
