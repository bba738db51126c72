use Rattle.std.proofs.lemmas.Result.{err_from_is_err_and}
use Rattle.cli_net.proofs.ToldLines.{a_change, no_change, unheard}
use Rattle.cli_net.proofs.telling.read_change.Goals as goal

pub returns-in_err-line : goal.returns-in_err-line
returns-in_err-line g c =
    let p = err_from_is_err_and c.from_residual.result c.from_residual.ensures.1 in
    rw (p.1, p.2) record { heard = unheard _ _ _ c.in_err-line.ensures.taken c.in_err-line.ensures.err }

pub returns-in_err-change : goal.returns-in_err-change
returns-in_err-change g c =
    let p = err_from_is_err_and c.from_residual-in_err-change.result c.from_residual-in_err-change.ensures.1 in
    let fault = rw c.as_slice.ensures.value at c.in_err-change.ensures.fault in
    rw (p.1, p.2) record { heard = no_change _ _ c.in-Some.line _ (rw c.in-Some.is at c.in_ok-line.ensures.taken) fault }

pub returns : goal.returns
returns g c =
    let found = rw c.as_slice.ensures.value at c.in_ok-change.ensures.found in
    record { heard = a_change _ _ c.in-Some.line _ (rw c.in-Some.is at c.in_ok-line.ensures.taken) found }
