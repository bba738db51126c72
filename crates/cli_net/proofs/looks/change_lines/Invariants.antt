use Rattle.std.proofs.Common.{◌≡◌, ◌++◌, ◌∷◌, [], take}
use Rattle.std.specs.List.{flat_map}
use Rattle.cli_net.specs.Membership.{change_line}
use Rattle.cli_net.proofs.looks.change_lines.Given as goal

-- with a newline, the lines so far
abbrev pub invariant-others : goal.invariant-others
invariant-others l = l.lines.items ++ 10 ∷ [] ≡ flat_map change_line (l.fn.first ∷ take l.other-index l.others)
