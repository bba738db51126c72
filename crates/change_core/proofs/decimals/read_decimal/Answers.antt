use Rattle.std.proofs.Common.{ap, refl, subst, sym}
use Rattle.std.proofs.lemmas.Bool.{false≢true}
use Rattle.change_core.specs.Numeral.{IsPlain}
use Rattle.std.proofs.Common.{Some}
use Rattle.change_core.proofs.Numerals.{number_read, decimal_plain, same_from_read, read_not_refused}
use Rattle.change_core.proofs.decimals.read_decimal.Goals as goal

pub returns-then-not-is_plain-clause-exact : goal.returns-then-not-is_plain-clause-exact
returns-then-not-is_plain-clause-exact c = λ n small e. absurd (false≢true (c.if-not-is_plain.ensures.1 (subst IsPlain (sym c.as_bytes.ensures.value) (decimal_plain c.args.text.now n small e))))

pub returns-in-Ok-clause-read : goal.returns-in-Ok-clause-read
returns-in-Ok-clause-read c = number_read c.args.text.now c.in-Ok.number c.in-Ok.ensures.value.0 (subst IsPlain c.as_bytes.ensures.value (c.if-not-is_plain.ensures.0 refl))

pub returns-in-Ok-clause-exact : goal.returns-in-Ok-clause-exact
returns-in-Ok-clause-exact c = λ n small e. ap Some (same_from_read c.args.text.now c.in-Ok.number n c.in-Ok.ensures.value.0 small e)

pub returns-in-Err-clause-exact : goal.returns-in-Err-clause-exact
returns-in-Err-clause-exact c = λ n small e. absurd (read_not_refused c.args.text.now n c.in-Err.ensures.value.0 small e)
