use Rattle.std.proofs.Common.{◌≡◌, ◌/◌, ◌++◌, ◌∙◌, take, ap, decimal, arith}
use Rattle.change_core.specs.Printing.{upto}
use Rattle.change_core.proofs.DecimalTexts.{upto_start, decimal_upto}
use Rattle.change_core.proofs.fixed_texts.put_octet.Goals as goal

pub returns-clause-text : goal.returns-clause-text
returns-clause-text c =
    let n = c.from-number.result in
    let old = take c.args.len c.args.bytes.now in
    let hundreds = c.put_digit-hundreds.ensures.digits old (upto_start old (n / 100 / 10) (omega arith)) in
    let next : n / 100 ≡ n / 10 / 10 = omega arith in
    let tens = c.put_digit-tens.ensures.digits old (hundreds ∙ ap (λ m. old ++ upto m) next) in
    let text = decimal_upto old _ _ n _ tens (omega arith) c.put.ensures.text (omega arith) in
    let same : n ≡ c.args.number = omega arith in
    text ∙ ap (λ m. old ++ decimal m) same
