use Rattle.std.proofs.Common.{rules}
use Rattle.peer_core.specs.Errors.{error_of_forward, error_of_lock}
use Rattle.peer_core.specs.Forwarding.{IsRequestRefusal}
use Rattle.peer_core.proofs.Acts.{said_so}
use Rattle.peer_core.proofs.Parts.{does_as_refused, does_next, does_stop_at}
use Rattle.peer_core.proofs.Served.{barred_view, did_view}
use Rattle.peer_core.proofs.Forwarded.{decides_nothing, decides_refusal, decides_step, lock_in_request, ready_names, ready_stands}
use Rattle.peer_core.proofs.forwarding.plan_attempt.Goals as goal

pub returns-in_err-view-clause-did : goal.returns-in_err-view-clause-did
returns-in_err-view-clause-did g c =
    does_stop_at _ _ (error_of_lock c.in_err-view.field-0.0) c.from_residual.result c.from_residual.ensures.1 (barred_view c.in_err-view.field-0.0 c.in_err-view.ensures.refused)

pub returns-in_err-view-clause-named : goal.returns-in_err-view-clause-named
returns-in_err-view-clause-named g c =
    said_so IsRequestRefusal c.from_residual.result (error_of_lock c.in_err-view.field-0.0) c.from_residual.ensures.1 (lock_in_request c.in_err-view.field-0.0)

pub returns-in_default-clause-did : goal.returns-in_default-clause-did
returns-in_default-clause-did g c =
    does_next _ _ _ _ (did_view c.in_ok-view.view c.in_ok-view.ensures.called)
    (decides_nothing _ _ g.H.PointHash.hash_of c.args.now _ _ c.in_ok-view.view (search rules))

pub returns-in_err-step-clause-did : goal.returns-in_err-step-clause-did
returns-in_err-step-clause-did g c =
    does_next _ _ _ _ (did_view c.in_ok-view.view c.in_ok-view.ensures.called)
    (does_as_refused c.from_residual-in_err-step.result (error_of_forward c.in_err-step.field-0.0) c.from_residual-in_err-step.ensures.1
    (decides_refusal _ _ g.H.PointHash.hash_of c.args.now _ _ c.in_ok-view.view c.in-Ok.view c.in_err-step.field-0.0 c.in-Ok.is c.in_err-step.ensures))

pub returns-in_err-step-clause-named : goal.returns-in_err-step-clause-named
returns-in_err-step-clause-named g c =
    said_so IsRequestRefusal c.from_residual-in_err-step.result (error_of_forward c.in_err-step.field-0.0) c.from_residual-in_err-step.ensures.1
    (ready_names g.H.PointHash.hash_of c.in-Ok.view c.args.now _ _ c.in_err-step.field-0.0 c.requires.open c.in_err-step.ensures)

pub returns-clause-did : goal.returns-clause-did
returns-clause-did g c =
    does_next _ _ _ _ (did_view c.in_ok-view.view c.in_ok-view.ensures.called)
    (decides_step _ _ g.H.PointHash.hash_of c.args.now _ _ c.in_ok-view.view c.in-Ok.view c.in_ok-step.step c.in-Ok.is c.in_ok-step.ensures)

pub returns-clause-stands : goal.returns-clause-stands
returns-clause-stands g c = ready_stands g.H.PointHash.hash_of c.in-Ok.view c.args.now _ _ c.in_ok-step.step c.requires.open c.in_ok-step.ensures
