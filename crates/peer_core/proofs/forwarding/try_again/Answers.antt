use Rattle.std.proofs.Common.{refl}
use Rattle.peer_core.specs.Errors.{error_of_forward}
use Rattle.peer_core.specs.Forwarding.{IsRequestRefusal}
use Rattle.peer_core.proofs.Acts.{said_so}
use Rattle.peer_core.proofs.Forwarded.{failed_names}
use Rattle.peer_core.proofs.Judged.{judged_refusal, rests_open}
use Rattle.peer_core.proofs.forwarding.try_again.Goals as goal

pub returns-in_err-failed-clause-judged : goal.returns-in_err-failed-clause-judged
returns-in_err-failed-clause-judged c =
    λ answer fails. judged_refusal c.args.now c.args.request answer fails _ c.in_err-failed.field-0.0 c.from_residual.result c.from_residual.ensures.1 c.in_err-failed.ensures

pub returns-in_err-failed-clause-named : goal.returns-in_err-failed-clause-named
returns-in_err-failed-clause-named c =
    said_so IsRequestRefusal c.from_residual.result (error_of_forward c.in_err-failed.field-0.0) c.from_residual.ensures.1
    (failed_names c.args.now _ _ c.in_err-failed.field-0.0 c.requires c.in_err-failed.ensures)

pub returns-clause-judged : goal.returns-clause-judged
returns-clause-judged c = λ answer fails. (fails, c.in_ok-failed.ensures, refl)

pub returns-clause-open : goal.returns-clause-open
returns-clause-open c = rests_open c.args.now _ _ c.in_ok-failed.ensures
