use Rattle.std.proofs.Common.{◌+◌, ◌-◌, ◌≤◌, length}
use Rattle.change_core.specs.Numbers.{most_members}
use Rattle.cli_net.proofs.ToldLines.{HasRead}
use Rattle.cli_net.proofs.telling.read_changes.Given as goal

-- the lines so far have been read
abbrev pub invariant-lines : goal.invariant-lines
invariant-lines g l = record {
  few : length l.changes.items ≤ most_members;
  read : HasRead (g.R.Read.remaining l.fn.reader) (g.R.Read.remaining l.reader) l.changes.items;
}

-- the changes that may yet come
abbrev pub decreases-lines : goal.decreases-lines
decreases-lines g l = most_members + 1 - length l.changes.items
