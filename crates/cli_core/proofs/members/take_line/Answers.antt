use Rattle.std.proofs.lemmas.Result.{err_from_is_err_and}
use Rattle.cli_core.proofs.Folding.{fault_line}
use Rattle.cli_core.proofs.members.take_line.Goals as goal

pub returns-in_err-heard-clause-err : goal.returns-in_err-heard-clause-err
returns-in_err-heard-clause-err c =
    let p = err_from_is_err_and c.from_residual.result c.from_residual.ensures.1 in
    rw (p.1, p.2) (fault_line _ c.args.line.now _ c.in_err-heard.ensures.fault)
