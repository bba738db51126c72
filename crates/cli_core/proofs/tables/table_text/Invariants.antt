use Rattle.std.proofs.Common.{◌≡◌, ◌++◌, codes, string_bytes, take}
use Rattle.std.specs.List.{flat_map}
use Rattle.cli_core.specs.Table.{member_row, total_weight}
use Rattle.cli_core.proofs.tables.table_text.Given as goal

-- the names of the columns, and the rows so far
abbrev pub invariant-members : goal.invariant-members
invariant-members l = string_bytes l.text
    ≡ codes "ADDRESS               STATUS    INCARNATION      WEIGHT SHARE" ++ flat_map (member_row (total_weight l.members)) (take l.member-index l.members)
