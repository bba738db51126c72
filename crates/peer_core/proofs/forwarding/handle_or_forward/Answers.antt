use Rattle.std.proofs.Common.{Err, Ok, ap, refl, subst, ◌∙◌}
use Rattle.peer_core.specs.Forwarding.{StaysOpen, way_of_try}
use Rattle.peer_core.specs.Handling.{between}
use Rattle.peer_core.proofs.Parts.{does_end, does_left, does_stop_turn_at, leads_then, leads_turn}
use Rattle.peer_core.proofs.Forwarded.{begins, begins_open, did_again, did_from}
use Rattle.peer_core.proofs.Resent.{resent_again, resent_answered, resent_begins, resent_failed, tries_from, unhandled_again}
use Rattle.peer_core.proofs.forwarding.handle_or_forward.Goals as goal

pub loop-init : goal.loop-init
loop-init g c = record {
  left = λ is. begins g.H.PointHash.hash_of g.L.Link.may_answer (between g.A.HandlerMut.handled c.args.handler.now is).once g.C.Clock.time c.args.node.now c.args.pass.now c.args.keys c.args.body c.start.result
      c.start.ensures;
  unhandled = refl;
  fits = c.requires;
  resent = resent_begins g.H.PointHash.hash_of g.L.Link.went c.args.keys c.args.body c.start.result c.start.ensures;
  is_open = begins_open c.args.keys c.start.result c.start.ensures;
}

pub returns-in_err-tried-clause-request : goal.returns-in_err-tried-clause-request
returns-in_err-tried-clause-request g c =
    does_left (c.loop.invariant.left c.try_once.new.handler) (does_stop_turn_at _ _ _ c.in_err-tried.field-0.0 c.from_residual.result c.from_residual.ensures.1
    (did_from g.H.PointHash.hash_of g.L.Link.may_answer g.C.Clock.time g.A.HandlerMut.handled c.loop.request c.loop.handler c.try_once.new.handler c.args.handler.now (Err c.in_err-tried.field-0.0)
    c.loop.invariant.unhandled c.in_err-tried.ensures.did))

pub returns-in-Answered-clause-request : goal.returns-in-Answered-clause-request
returns-in-Answered-clause-request g c =
    does_left (c.loop.invariant.left c.try_once.new.handler) (does_end _ _ _ c.in_ok-tried.tried _
    (did_from g.H.PointHash.hash_of g.L.Link.may_answer g.C.Clock.time g.A.HandlerMut.handled c.loop.request c.loop.handler c.try_once.new.handler c.args.handler.now (Ok c.in_ok-tried.tried)
    c.loop.invariant.unhandled c.in_ok-tried.ensures.did) (ap way_of_try c.in-Answered.is))

pub loop-preserved : goal.loop-preserved
loop-preserved g c = record {
  left = λ is. leads_then (c.loop.invariant.left is) (leads_turn _ _ _ c.in-Again.back c.in_ok-tried.tried
      (did_again g.H.PointHash.hash_of g.L.Link.may_answer g.C.Clock.time g.A.HandlerMut.handled c.loop.request c.loop.handler c.try_once.new.handler c.args.handler.now is c.in-Again.back
      c.in_ok-tried.tried c.in-Again.is c.in_ok-tried.ensures.did) (ap way_of_try c.in-Again.is));
  unhandled = unhandled_again g.H.PointHash.hash_of g.L.Link.went g.A.HandlerMut.handled c.loop.handler c.try_once.new.handler c.loop.link c.try_once.new.link c.loop.request c.in-Again.back c.in_ok-tried.tried c.in-Again.is c.in_ok-tried.ensures.sent
      ∙ c.loop.invariant.unhandled;
  fits = c.try_once.ensures.fits;
  resent = resent_again g.H.PointHash.hash_of g.L.Link.went g.A.HandlerMut.handled c.loop.handler c.try_once.new.handler c.loop.request c.in-Again.back c.in_ok-tried.tried c.in-Again.is c.loop.invariant.resent c.in_ok-tried.ensures.sent;
  is_open = subst StaysOpen c.in-Again.is c.in_ok-tried.ensures.open;
}

pub returns-in_err-tried-clause-sent : goal.returns-in_err-tried-clause-sent
returns-in_err-tried-clause-sent g c = resent_failed g.H.PointHash.hash_of g.L.Link.went g.A.HandlerMut.handled c.args.handler.now c.try_once.new.handler _ c.loop.request c.in_err-tried.field-0.0
    c.from_residual.result c.from_residual.ensures.1 c.loop.invariant.resent
    (tries_from g.H.PointHash.hash_of g.L.Link.went g.A.HandlerMut.handled c.try_once.new.handler c.loop.link c.try_once.new.link c.args.handler.now c.loop.request (Err c.in_err-tried.field-0.0) c.loop.invariant.unhandled c.in_err-tried.ensures.sent)

pub returns-in-Answered-clause-sent : goal.returns-in-Answered-clause-sent
returns-in-Answered-clause-sent g c = resent_answered g.H.PointHash.hash_of g.L.Link.went g.A.HandlerMut.handled c.args.handler.now c.try_once.new.handler c.loop.request c.in_ok-tried.tried c.in-Answered.text c.in-Answered.is c.loop.invariant.resent
    (tries_from g.H.PointHash.hash_of g.L.Link.went g.A.HandlerMut.handled c.try_once.new.handler c.loop.link c.try_once.new.link c.args.handler.now c.loop.request (Ok c.in_ok-tried.tried) c.loop.invariant.unhandled c.in_ok-tried.ensures.sent)
