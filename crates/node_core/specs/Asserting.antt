-- The entries that a node asserts of itself unasked: that it leaves, and that it is back.
use Rattle.std.specs.Prelude.{◌≡◌, ◌≢◌, ◌+◌, ◌<◌, Result, Ok, Err}
use Rattle.change_core.specs.declared.changes.Change.{Change}
use Rattle.change_core.specs.declared.statuses.Status.TheVariants.{Alive, Leave}
use Rattle.change_core.specs.Numbers.{greatest_number}
use Rattle.node_core.specs.declared.errors.NodeError.{NodeError}
use Rattle.node_core.specs.declared.errors.NodeError.TheVariants as error
use Rattle.node_core.specs.Node.{Node, altered, asserted_by, own_change}

-- the node's own entry, as one that leaves
abbrev pub leaving : {H : Type 0} → Node H → Change
leaving node = record (own_change node) { status = Leave }

-- the node's own entry, as one that is back at the next incarnation
abbrev pub rejoining : {H : Type 0} → Node H → Change
rejoining node = record (own_change node) { incarnation = (own_change node).incarnation + 1; status = Alive }

-- the node leaves, if it has not
abbrev pub LeaveStep : {H : Type 0} → Node H → Result Change NodeError → Node H → Type 0
LeaveStep old (Ok change) new = ((own_change old).status ≢ Leave) × (change ≡ leaving old) × (new ≡ altered old (asserted_by old.own change))
LeaveStep old (Err error.AlreadyLeft) new = ((own_change old).status ≡ Leave) × (new ≡ old)
LeaveStep old (Err error.Memory) new = ((own_change old).status ≢ Leave) × (new ≡ old)
LeaveStep old (Err other) new = ⊥

-- the node is back at the next incarnation, if it has left and one is left
abbrev pub RejoinStep : {H : Type 0} → Node H → Result Change NodeError → Node H → Type 0
RejoinStep old (Ok change) new =
    ((own_change old).status ≡ Leave) × ((own_change old).incarnation < greatest_number) × (change ≡ rejoining old) × (new ≡ altered old (asserted_by old.own change))
RejoinStep old (Err error.NotLeft) new = ((own_change old).status ≢ Leave) × (new ≡ old)
RejoinStep old (Err error.Exhausted) new = ((own_change old).status ≡ Leave) × ((own_change old).incarnation ≡ greatest_number) × (new ≡ old)
RejoinStep old (Err error.Memory) new = ((own_change old).status ≡ Leave) × ((own_change old).incarnation < greatest_number) × (new ≡ old)
RejoinStep old (Err other) new = ⊥
