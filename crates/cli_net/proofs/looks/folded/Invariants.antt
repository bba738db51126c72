use Rattle.std.proofs.Common.{◌≡◌, ◌≤◌, length, map, take}
use Rattle.change_core.specs.Members.{members}
use Rattle.change_core.specs.Numbers.{most_members}
use Rattle.cli_core.specs.Changes.{change_of}
use Rattle.cli_net.proofs.looks.folded.Given as goal

-- the changes so far come to the table's members, which are no more than them
abbrev pub invariant-changes : goal.invariant-changes
invariant-changes l = record {
  max : l.table.max ≡ most_members;
  few : length l.table.members ≤ l.sourced-index;
  come_to : l.table.members ≡ members (map change_of (take l.sourced-index l.changes));
}
