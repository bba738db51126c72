use Rattle.std.proofs.Common.{◌∙◌, sym, subst, arith, IsAscii}
use Rattle.change_core.proofs.Hex.{bytes_from_reads, encode_lower-digits, IsAscii-digest_digits}
use Rattle.change_core.proofs.fixed_texts.digits_of.Goals as goal

pub returns-clause-digits : goal.returns-clause-digits
returns-clause-digits c =
    let small = bytes_from_reads c.args.bytes.now (λ i. let f = c.type_inv.bytes i in omega arith) in
    c.in-Ok.ensures.written ∙ encode_lower-digits c.args.bytes.now small

pub returns-clause-ascii : goal.returns-clause-ascii
returns-clause-ascii c =
    let small = bytes_from_reads c.args.bytes.now (λ i. let f = c.type_inv.bytes i in omega arith) in
    subst IsAscii (sym (c.in-Ok.ensures.written ∙ encode_lower-digits c.args.bytes.now small)) (IsAscii-digest_digits c.args.bytes.now small)

pub returns-clause-valid : goal.returns-clause-valid
returns-clause-valid c = record { has_32 = c.requires; are_bytes = bytes_from_reads c.args.bytes.now (λ i. let f = c.type_inv.bytes i in omega arith) }
