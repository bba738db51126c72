use Rattle.std.proofs.Common.{◌≡◌, ◌+◌, ◌-◌, ◌≤◌}
use Rattle.change_core.specs.Numbers.{greatest_number, most_members}
use Rattle.cli_core.proofs.Folding.{HasHeard}
use Rattle.cli_core.proofs.members.read_members.Given as goal

-- the lines before this number have been heard
abbrev pub invariant-lines : goal.invariant-lines
invariant-lines g l = record {
  counted : l.number ≤ greatest_number + 1;
  max : l.table.max ≡ most_members;
  heard : HasHeard (g.R.Read.remaining l.fn.reader) (g.R.Read.remaining l.reader) l.number l.table.members;
}

-- the lines that may yet come
abbrev pub decreases-lines : goal.decreases-lines
decreases-lines g l = greatest_number + 2 - l.number
