use Rattle.std.proofs.Common.{◌≡◌, ◌++◌, codes, rules, string_bytes}
use Rattle.std.specs.Fmt.{decimal}
use Rattle.change_core.proofs.NumberTexts.{number_text-decimal}
use Rattle.cli_core.proofs.scripts.answers.message_text.Goals as goal

pub returns-clause-text : goal.returns-clause-text
returns-clause-text c =
    let formatted : string_bytes c.in_ok-format.field-0 ≡ codes "message " ++ decimal c.args.number = search rules in
    rw (number_text-decimal c.args.number c.ranges.number.fits) formatted
