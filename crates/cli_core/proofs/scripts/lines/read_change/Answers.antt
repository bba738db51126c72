use Rattle.std.proofs.Common.{sym, subst, ◌∙◌}
use Rattle.change_core.specs.Status.{status_word}
use Rattle.cli_core.specs.ScriptLines.{IsWeighted}
use Rattle.cli_core.proofs.ScriptWords.{none_not_some}
use Rattle.cli_core.proofs.scripts.lines.read_change.Goals as goal

pub returns-in_err-status-clause-none : goal.returns-in_err-status-clause-none
returns-in_err-status-clause-none c = λ q d h.
    let (valid, small, (behind, first, (rest, second, weighted))) = h in
    let address = c.in_ok-address.ensures.exact d.address behind valid first in
    let number = c.in_ok-number.ensures.exact d.incarnation rest small (address.1 ∙ second) in
    none_not_some (d.status, d.weight) (c.in_err-status.ensures.exact d.status d.weight (subst (IsWeighted (status_word d.status) d.weight) (sym number.1) weighted))
