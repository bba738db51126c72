use Rattle.std.proofs.Common.{◌≡◌, string_bytes, rules}
use Rattle.std.specs.Fmt.{decimal}
use Rattle.change_core.proofs.NumberTexts.{number_text-decimal}
use Rattle.cli_net.proofs.telling.count_text.Goals as goal

pub returns-clause-text : goal.returns-clause-text
returns-clause-text c =
    let formatted : string_bytes c.in_ok-format.field-0 ≡ decimal c.args.count = search rules in
    rw (number_text-decimal c.args.count c.ranges.count.fits) formatted
