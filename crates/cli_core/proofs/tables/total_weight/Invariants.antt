use Rattle.std.proofs.Common.{◌≡◌, ◌≤◌, ◌*◌, take}
use Rattle.std.specs.List.{sum_by}
use Rattle.cli_core.specs.Table.{served_weight}
use Rattle.cli_core.proofs.tables.total_weight.Given as goal

-- the weights so far, each of them 8 at most
abbrev pub invariant-members : goal.invariant-members
invariant-members l = (l.total ≡ sum_by served_weight (take l.member-index l.members)) × (l.total ≤ 8 * l.member-index)
