use Rattle.std.proofs.Common.{Ok, Err, ap}
use Rattle.forward_core.specs.declared.attempts.Step.{Step}
use Rattle.peer_core.specs.Handling.{between}
use Rattle.peer_core.proofs.Parts.{does_give, does_next, does_next_is, does_stop_at}
use Rattle.peer_core.proofs.Forwarded.{does_rest, handled_for, handles_so, sends_so, tries_at}
use Rattle.peer_core.proofs.Resent.{try_answers, try_fails, try_refuses, try_rests, try_sends, refused_step}
use Rattle.peer_core.proofs.forwarding.try_once.Goals as goal

pub returns-in_err-view-clause-did : goal.returns-in_err-view-clause-did
returns-in_err-view-clause-did g c =
    tries_at g.H.PointHash.hash_of g.L.Link.may_answer (between g.A.HandlerMut.handled c.args.handler.now c.args.handler.now).once g.C.Clock.time c.args.request c.now.result c.plan_attempt.new.attempt
    c.now.ensures (does_stop_at _ _ c.in_err-view.field-0.0 c.from_residual.result c.from_residual.ensures.1 c.in_err-view.ensures.did)

pub returns-in-Wait-clause-did : goal.returns-in-Wait-clause-did
returns-in-Wait-clause-did g c =
    tries_at g.H.PointHash.hash_of g.L.Link.may_answer (between g.A.HandlerMut.handled c.args.handler.now c.args.handler.now).once g.C.Clock.time c.args.request c.now.result c.plan_attempt.new.attempt
    c.now.ensures (does_next_is _ _ _ _ _ c.in_ok-view.ensures.did (ap (λ (s : Step). (c.in_ok-view.view, s)) c.in-Wait.is) (does_rest g.C.Clock.time _ _ _ _ c.wait_until.ensures))

pub returns-in_err-text-in-Here-clause-did : goal.returns-in_err-text-in-Here-clause-did
returns-in_err-text-in-Here-clause-did g c =
    tries_at g.H.PointHash.hash_of g.L.Link.may_answer (between g.A.HandlerMut.handled c.args.handler.now c.handle.new.handler).once g.C.Clock.time c.args.request c.now.result c.plan_attempt.new.attempt
    c.now.ensures
    (does_next_is _ _ _ _ _ c.in_ok-view.ensures.did (ap (λ (s : Step). (c.in_ok-view.view, s)) c.in-Here.is)
    (does_stop_at _ _ c.in_err-text-in-Here.field-0.0 c.from_residual-in_err-text-in-Here.result c.from_residual-in_err-text-in-Here.ensures.1
    (handles_so _ _ (between g.A.HandlerMut.handled c.args.handler.now c.handle.new.handler).once _ _ _ (handled_for (between g.A.HandlerMut.handled c.args.handler.now c.handle.new.handler).once _ _ c.args.request.body (Err c.in_err-text-in-Here.field-0.0) c.keys.ensures c.in_err-text-in-Here.ensures.handled))))

pub returns-in_ok-text-in-Here-clause-did : goal.returns-in_ok-text-in-Here-clause-did
returns-in_ok-text-in-Here-clause-did g c =
    tries_at g.H.PointHash.hash_of g.L.Link.may_answer (between g.A.HandlerMut.handled c.args.handler.now c.handle.new.handler).once g.C.Clock.time c.args.request c.now.result c.plan_attempt.new.attempt
    c.now.ensures
    (does_next_is _ _ _ _ _ c.in_ok-view.ensures.did (ap (λ (s : Step). (c.in_ok-view.view, s)) c.in-Here.is)
    (does_next _ _ _ _
    (handles_so _ _ (between g.A.HandlerMut.handled c.args.handler.now c.handle.new.handler).once _ _ _ (handled_for (between g.A.HandlerMut.handled c.args.handler.now c.handle.new.handler).once _ _ c.args.request.body (Ok c.in_ok-text-in-Here.text) c.keys.ensures c.in_ok-text-in-Here.ensures.handled)) (does_give _ _ _)))

pub returns-in-Send-clause-did : goal.returns-in-Send-clause-did
returns-in-Send-clause-did g c =
    tries_at g.H.PointHash.hash_of g.L.Link.may_answer (between g.A.HandlerMut.handled c.args.handler.now c.args.handler.now).once g.C.Clock.time c.args.request c.now.result c.plan_attempt.new.attempt
    c.now.ensures
    (does_next_is _ _ _ _ _ c.in_ok-view.ensures.did (ap (λ (s : Step). (c.in_ok-view.view, s)) c.in-Send.is) (sends_so _ _ g.L.Link.may_answer g.C.Clock.time c.in_ok-view.view _ _ _ c.send.ensures.sent))

pub returns-in_err-view-clause-sent : goal.returns-in_err-view-clause-sent
returns-in_err-view-clause-sent g c = try_fails g.H.PointHash.hash_of g.L.Link.went g.A.HandlerMut.handled c.args.request _ c.from_residual.result c.in_err-view.field-0.0 _ _ c.from_residual.ensures.1
    (refused_step g.H.PointHash.hash_of c.now.result _ _ _ _ c.requires.open c.in_err-view.ensures.did.makes.so) c.in_err-view.ensures.did

pub returns-in-Wait-clause-sent : goal.returns-in-Wait-clause-sent
returns-in-Wait-clause-sent g c = try_rests g.H.PointHash.hash_of g.L.Link.went g.A.HandlerMut.handled c.now.result c.args.request c.plan_attempt.new.attempt c.in_ok-view.view c.in_ok-view.step c.in-Wait.until _ _ c.requires.few c.in_ok-view.ensures.did c.in-Wait.is

pub returns-in_err-text-in-Here-clause-sent : goal.returns-in_err-text-in-Here-clause-sent
returns-in_err-text-in-Here-clause-sent g c = try_refuses g.H.PointHash.hash_of g.L.Link.went g.A.HandlerMut.handled c.now.result c.args.request c.plan_attempt.new.attempt c.in_ok-view.view c.in_ok-view.step c.from_residual-in_err-text-in-Here.result
    c.in_err-text-in-Here.field-0.0 c.args.handler.now c.handle.new.handler _ c.in_ok-view.ensures.did c.in-Here.is c.from_residual-in_err-text-in-Here.ensures.1
    (handled_for (between g.A.HandlerMut.handled c.args.handler.now c.handle.new.handler).once _ _ c.args.request.body (Err c.in_err-text-in-Here.field-0.0) c.keys.ensures c.in_err-text-in-Here.ensures.handled)

pub returns-in_ok-text-in-Here-clause-sent : goal.returns-in_ok-text-in-Here-clause-sent
returns-in_ok-text-in-Here-clause-sent g c = try_answers g.H.PointHash.hash_of g.L.Link.went g.A.HandlerMut.handled c.now.result c.args.request c.plan_attempt.new.attempt c.in_ok-view.view c.in_ok-view.step c.in_ok-text-in-Here.text
    c.args.handler.now c.handle.new.handler _ c.in_ok-view.ensures.did c.in-Here.is
    (handled_for (between g.A.HandlerMut.handled c.args.handler.now c.handle.new.handler).once _ _ c.args.request.body (Ok c.in_ok-text-in-Here.text) c.keys.ensures c.in_ok-text-in-Here.ensures.handled)

pub returns-in-Send-clause-sent : goal.returns-in-Send-clause-sent
returns-in-Send-clause-sent g c = try_sends g.H.PointHash.hash_of g.L.Link.went g.A.HandlerMut.handled c.now.result c.args.request c.plan_attempt.new.attempt c.in_ok-view.view c.in_ok-view.step c.in-Send.owner c.send.result _ _ _ c.requires.few c.in_ok-view.ensures.did c.in-Send.is c.send.ensures.once
