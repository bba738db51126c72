-- The entries that a node writes to its membership: those of a verdict, or its own assertion.
use Rattle.std.specs.Prelude.{◌≡◌, ℕ, true, List, Option, Some, None}
use Rattle.change_core.specs.declared.changes.Change.{Change}
use Rattle.change_core.specs.Members.{greatest}
use Rattle.detector_core.specs.declared.timers.Timer.{Timer}
use Rattle.detector_core.specs.Timers.{HasTimer}
use Rattle.member_core.specs.Membership.{Membership, judged, IsOwnAssertion}
use Rattle.member_core.specs.declared.verdicts.Verdict.TheVariants.{Old, Take, Refute, Exhausted, Full}
use Rattle.node_core.specs.declared.edits.Edit.{Edit}
use Rattle.node_core.specs.declared.edits.Edit.TheVariants.{Judged, Own}
use Rattle.node_core.specs.Node.{Node, is_timed, own_change}

-- the entry that it leaves
abbrev pub entry_in : Edit → Option Change
entry_in (Judged Old) = None
entry_in (Judged (Take c)) = Some c
entry_in (Judged (Refute given next)) = Some next
entry_in (Judged Exhausted) = None
entry_in (Judged Full) = None
entry_in (Own c) = Some c

-- it is the membership's verdict on a change, or a change that the membership may assert
abbrev pub MayEdit : Membership → Edit → Type 0
MayEdit m (Judged Old) = ⊥
MayEdit m (Judged (Take c)) = judged m c ≡ Take c
MayEdit m (Judged (Refute given next)) = judged m given ≡ Refute given next
MayEdit m (Judged Exhausted) = ⊥
MayEdit m (Judged Full) = ⊥
MayEdit m (Own c) = IsOwnAssertion m.own c

-- an entry of another with a deadline has a timer
abbrev pub IsTimed : ℕ → List Change → List Timer → ℕ → Type 0
IsTimed own members timers a = (c : Change) → greatest members a ≡ Some c → is_timed own c ≡ true → HasTimer timers a

-- the membership of a node, room aside
abbrev pub membership_of : {H : Type 0} → Node H → Membership
membership_of node = record { own = own_change node; members = node.members; max = node.config.max_members; room = 0 }
