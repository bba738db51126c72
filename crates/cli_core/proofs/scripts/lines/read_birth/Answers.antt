use Rattle.std.proofs.Common.{sym, subst}
use Rattle.change_core.specs.Numeral.{number_text}
use Rattle.cli_core.specs.ScriptLines.{IsWeighted}
use Rattle.cli_core.proofs.ScriptWords.{none_not_some}
use Rattle.cli_core.proofs.scripts.lines.read_birth.Goals as goal

pub returns-in_err-incarnation-clause-none : goal.returns-in_err-incarnation-clause-none
returns-in_err-incarnation-clause-none c = λ q b h.
    let (valid, small, (rest, e, weighted)) = h in
    let parts = c.in_ok-address.ensures.exact b.address rest valid e in
    none_not_some (b.incarnation, b.weight) (c.in_err-incarnation.ensures.exact b.incarnation b.weight small (subst (IsWeighted (number_text b.incarnation) b.weight) (sym parts.1) weighted))
