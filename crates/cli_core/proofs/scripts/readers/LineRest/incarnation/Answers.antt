use Rattle.std.proofs.Common.{sym, subst, ◌∙◌}
use Rattle.change_core.specs.Numeral.{number_text}
use Rattle.cli_core.specs.ScriptLines.{IsWeightWord}
use Rattle.cli_core.proofs.ScriptWords.{visible_number, none_not_some, same_from_some, some_pair}
use Rattle.cli_core.proofs.scripts.readers.LineRest.incarnation.Goals as goal

pub returns-in_err-weight-clause-exact : goal.returns-in_err-weight-clause-exact
returns-in_err-weight-clause-exact c = λ i w small h.
    let (behind, is, weighs) = h in
    let parts = c.last.ensures.exact (number_text i) behind (visible_number i) is in
    absurd (none_not_some w (c.in_err-weight.ensures.exact w (subst (IsWeightWord w) (sym parts.1) weighs)))

pub returns-in_err-number-clause-exact : goal.returns-in_err-number-clause-exact
returns-in_err-number-clause-exact c = λ i w small h.
    let (behind, is, weighs) = h in
    let parts = c.last.ensures.exact (number_text i) behind (visible_number i) is in
    absurd (none_not_some i (c.in_err-number.ensures.exact i small parts.0))

pub returns-clause-exact : goal.returns-clause-exact
returns-clause-exact c = λ i w small h.
    let (behind, is, weighs) = h in
    let parts = c.last.ensures.exact (number_text i) behind (visible_number i) is in
    let number = same_from_some c.in_ok-number.number i (c.in_ok-number.ensures.exact i small parts.0) in
    let weight = same_from_some c.in_ok-weight.weight w (c.in_ok-weight.ensures.exact w (subst (IsWeightWord w) (sym parts.1) weighs)) in
    some_pair c.in_ok-new.field-0 i c.in_ok-weight.weight w (c.in_ok-new.ensures.1 ∙ number) weight
