use Rattle.std.proofs.Common.{Err, ap}
use Rattle.std.proofs.lemmas.Result.{err_from_is_err_and}
use Rattle.cli_net.proofs.ToldLines.{faults, goes}
use Rattle.cli_net.proofs.telling.read_changes.Goals as goal

pub lines-preserved : goal.lines-preserved
lines-preserved g c = record {
  few = c.in_ok-hear.ensures.few;
  read = goes _ _ _ _ _ c.lines.invariant.read (rw c.if-branch.true at c.in_ok-hear.ensures.heard);
}

pub returns-in_err-hear-clause-fault : goal.returns-in_err-hear-clause-fault
returns-in_err-hear-clause-fault g c =
    let p = err_from_is_err_and c.from_residual.result c.from_residual.ensures.1 in
    rw (p.1, p.2) (faults _ _ _ _ _ _ c.lines.invariant.read c.lines.invariant.few c.in_err-hear.ensures.heard
    (λ f e. c.in_err-hear.ensures.unasked f (ap Err e)))
