use Rattle.std.proofs.Common.{rules, ◌≡◌, ◌∙◌, ◌-◌, ◌^◌, false, [], take, string_bytes}
use Rattle.std.specs.Fmt.{padded_integral, format_spec, digits}
use Rattle.std.specs.Int.{w64, from_be_bytes}
use Rattle.sha2.specs.Sha256.{sha256}
use Rattle.cli_core.proofs.HashDigits.{hash_digits}
use Rattle.cli_core.proofs.hashes.hash_text.Goals as goal

pub returns-clause-text : goal.returns-clause-text
returns-clause-text c =
    let formatted : string_bytes c.in_ok-format.field-0
    ≡ padded_integral (format_spec 32 0 4 16 (2 ^ 64 - 1)) false [] (digits 16 false (from_be_bytes w64 (take 8 (sha256 c.args.text.now)))) = search rules in
    formatted ∙ hash_digits c.args.text.now
