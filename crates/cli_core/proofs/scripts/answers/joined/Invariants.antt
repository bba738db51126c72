use Rattle.std.proofs.Common.{◌≡◌, ◌++◌, string_bytes, take}
use Rattle.std.specs.List.{flat_map}
use Rattle.change_core.specs.Address.{address_text}
use Rattle.cli_core.specs.ScriptAnswers.{spaced}
use Rattle.cli_core.proofs.scripts.answers.joined.Given as goal

-- the first, and those so far behind it
abbrev pub invariant-others : goal.invariant-others
invariant-others l = string_bytes l.text ≡ address_text l.fn.first ++ flat_map spaced (take l.other-index l.others)
