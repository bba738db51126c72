use Rattle.std.proofs.Common.{sym, subst, ◌∙◌}
use Rattle.change_core.specs.Status.{status_word}
use Rattle.cli_core.specs.ScriptLines.{IsVisible, IsWeightWord}
use Rattle.cli_core.proofs.ScriptWords.{visible_status, none_not_some, same_from_some, some_pair}
use Rattle.cli_core.proofs.scripts.readers.LineRest.status.Goals as goal

pub returns-in_err-weight-clause-exact : goal.returns-in_err-weight-clause-exact
returns-in_err-weight-clause-exact c = λ s w h.
    let (behind, is, weighs) = h in
    let parts = c.last.ensures.exact (status_word s) behind (visible_status s) is in
    absurd (none_not_some w (c.in_err-weight.ensures.exact w (subst (IsWeightWord w) (sym parts.1) weighs)))

pub returns-in_err-text-clause-exact : goal.returns-in_err-text-clause-exact
returns-in_err-text-clause-exact c = λ s w h.
    let (behind, is, weighs) = h in
    let parts = c.last.ensures.exact (status_word s) behind (visible_status s) is in
    absurd (c.in_err-text.ensures.exact (subst IsVisible (sym parts.0) (visible_status s)))

pub returns-clause-exact : goal.returns-clause-exact
returns-clause-exact c = λ s w h.
    let (behind, is, weighs) = h in
    let parts = c.last.ensures.exact (status_word s) behind (visible_status s) is in
    let weight = same_from_some c.in_ok-weight.weight w (c.in_ok-weight.ensures.exact w (subst (IsWeightWord w) (sym parts.1) weighs)) in
    let status = same_from_some c.in_ok-parse.field-0 s ((c.in_ok-parse.ensures s).1 (c.in_ok-text.ensures.read ∙ parts.0)) in
    some_pair c.in_ok-parse.field-0 s c.in_ok-weight.weight w status weight
