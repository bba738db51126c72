use Rattle.std.proofs.Common.{[], sym, ◌∙◌, append-nil, arith}
use Rattle.std.specs.Fmt.{decimal}
use Rattle.std.proofs.lemmas.Grind.{common_steps}
use Rattle.change_core.proofs.addresses.read_port.Goals as goal

pub returns-in_err-number-clause-exact : goal.returns-in_err-number-clause-exact
returns-in_err-number-clause-exact c = λ n small e. absurd (c.in_err-number.ensures.exact n [] (omega arith) tt (e ∙ sym (append-nil (decimal n))))

pub returns-else-is_empty-clause-exact : goal.returns-else-is_empty-clause-exact
returns-else-is_empty-clause-exact c = λ n small e.
    let p = c.in_ok-number.ensures.exact n [] (omega arith) tt (e ∙ sym (append-nil (decimal n))) in
    let none = p.1 in
    absurd (grind (arith, common_steps))
