use Rattle.peer_core.proofs.Parts.{does_next, does_stop_locked}
use Rattle.std.proofs.Common.{Ok, refl, rules}
use Rattle.peer_core.specs.Errors.{error_of_lock}
use Rattle.peer_core.specs.Handling.{between}
use Rattle.peer_core.specs.Serving.{Views}
use Rattle.peer_core.proofs.Served.{barred_view, decides_none, decides_so, did_view, fails_unhandled, may_be_handled}
use Rattle.peer_core.proofs.serving.serve_forward.Goals as goal

pub returns-in_err-view-clause-did : goal.returns-in_err-view-clause-did
returns-in_err-view-clause-did g c = does_stop_locked _ _ c.in_err-view.field-0.0 c.from_residual.result c.from_residual.ensures.1
    (fails_unhandled (between g.A.HandlerMut.handled c.args.handler.now c.args.handler.now) Views (error_of_lock c.in_err-view.field-0.0) refl
    (barred_view c.in_err-view.field-0.0 c.in_err-view.ensures.refused))

pub returns-in_default-clause-did : goal.returns-in_default-clause-did
returns-in_default-clause-did g c =
    does_next _ _ _ _ (may_be_handled (between g.A.HandlerMut.handled c.args.handler.now c.args.handler.now) Views c.in_ok-view.view (did_view c.in_ok-view.view c.in_ok-view.ensures.called))
    (decides_none g.H.PointHash.hash_of (between g.A.HandlerMut.handled c.args.handler.now c.args.handler.now) _ _ c.in_ok-view.view (search rules) refl c.refuse.ensures.did)

pub returns-clause-did : goal.returns-clause-did
returns-clause-did g c =
    does_next _ _ _ _
    (may_be_handled (between g.A.HandlerMut.handled c.args.handler.now c.reply_by_view-content.new.handler) Views c.in_ok-view.view (did_view c.in_ok-view.view c.in_ok-view.ensures.called))
    (decides_so g.H.PointHash.hash_of (between g.A.HandlerMut.handled c.args.handler.now c.reply_by_view-content.new.handler) _ _ c.in_ok-view.view c.in-Ok.view _ _ _ _ c.in-Ok.is
    c.reply_by_view-content.ensures c.message_from.ensures)
