use Rattle.std.proofs.Common.{◌≡◌, ◌++◌, string_bytes, take}
use Rattle.std.specs.List.{flat_map}
use Rattle.change_core.specs.Address.{address_text}
use Rattle.cli_core.proofs.OwnerLines.{later_line}
use Rattle.cli_core.proofs.owners.owners_text.Given as goal

-- the first line, and those so far after it
abbrev pub invariant-others : goal.invariant-others
invariant-others l = string_bytes l.text ≡ address_text l.fn.first ++ flat_map later_line (take l.other-index l.others)
