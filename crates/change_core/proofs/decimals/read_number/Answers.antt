use Rattle.std.proofs.Common.{Some, None, arith}
use Rattle.change_core.proofs.Numerals.{none_not_some, number_text_exact, number_text_read, same_from_some}
use Rattle.change_core.proofs.decimals.read_number.Goals as goal

pub returns-in_err-number-clause-exact : goal.returns-in_err-number-clause-exact
returns-in_err-number-clause-exact c = λ n few e. absurd (none_not_some n (number_text_exact c.args.text.now n None c.in_err-number.ensures.exact few e))

pub returns-then-number-le-MAX_NUMBER-clause-read : goal.returns-then-number-le-MAX_NUMBER-clause-read
returns-then-number-le-MAX_NUMBER-clause-read c =
    (c.if-number-le-MAX_NUMBER.true, number_text_read c.args.text.now c.in_ok-number.number c.if-number-le-MAX_NUMBER.true c.in_ok-number.ensures.read.1)

pub returns-then-number-le-MAX_NUMBER-clause-exact : goal.returns-then-number-le-MAX_NUMBER-clause-exact
returns-then-number-le-MAX_NUMBER-clause-exact c = λ n few e. number_text_exact c.args.text.now n (Some c.in_ok-number.number) c.in_ok-number.ensures.exact few e

pub returns-else-number-le-MAX_NUMBER-clause-exact : goal.returns-else-number-le-MAX_NUMBER-clause-exact
returns-else-number-le-MAX_NUMBER-clause-exact c = λ n few e.
    let same = same_from_some c.in_ok-number.number n (number_text_exact c.args.text.now n (Some c.in_ok-number.number) c.in_ok-number.ensures.exact few e) in
    absurd (omega (arith, same, few, c.if-number-le-MAX_NUMBER.false))
