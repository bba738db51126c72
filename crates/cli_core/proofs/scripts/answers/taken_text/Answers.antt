use Rattle.std.proofs.Common.{◌≡◌, ◌∷◌, ◌++◌, codes, string_bytes}
use Rattle.std.specs.Fmt.{decimal}
use Rattle.std.proofs.Common.{rules}
use Rattle.change_core.proofs.NumberTexts.{number_text-decimal}
use Rattle.cli_core.proofs.scripts.answers.taken_text.Goals as goal

pub returns-clause-text : goal.returns-clause-text
returns-clause-text c =
    let formatted : string_bytes c.in_ok-format.field-0 ≡ codes "taken " ++ (decimal c.args.applied ++ 32 ∷ decimal c.args.refuted) = search rules in
    rw (number_text-decimal c.args.applied c.ranges.applied.fits, number_text-decimal c.args.refuted c.ranges.refuted.fits) formatted
