use Rattle.std.proofs.Common.{◌/◌, ◌++◌, ◌∙◌, take, ap, arith}
use Rattle.change_core.specs.Printing.{upto}
use Rattle.change_core.proofs.DecimalTexts.{upto_start, decimal_upto}
use Rattle.change_core.proofs.fixed_texts.put_port.Goals as goal

pub returns-clause-text : goal.returns-clause-text
returns-clause-text c =
    let n = c.args.number in
    let old = take c.args.len c.args.bytes.now in
    let first = c.put_digit-first.ensures.digits old (upto_start old (n / 10000 / 10) (omega arith)) in
    let second = c.put_digit-second.ensures.digits old (first ∙ ap (λ m. old ++ upto m) (omega arith)) in
    let third = c.put_digit-third.ensures.digits old (second ∙ ap (λ m. old ++ upto m) (omega arith)) in
    let fourth = c.put_digit-fourth.ensures.digits old (third ∙ ap (λ m. old ++ upto m) (omega arith)) in
    decimal_upto old _ _ n _ fourth (omega arith) c.put.ensures.text (omega arith)
