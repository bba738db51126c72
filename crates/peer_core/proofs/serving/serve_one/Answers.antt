use Rattle.message_core.specs.declared.messages.Content.TheVariants.{PingReq}
use Rattle.peer_core.specs.Handling.{between}
use Rattle.peer_core.specs.Serving.{PassesOn}
use Rattle.peer_core.proofs.Served.{serves_unhandled}
use Rattle.std.proofs.Common.{refl, rules}
use Rattle.peer_core.proofs.Exchanges.{sent_over, sent_hushed}
use Rattle.peer_core.proofs.Hushed.{hushes_forwards}
use Rattle.peer_core.proofs.serving.serve_one.Goals as goal

pub returns-in-PingReq-clause-served : goal.returns-in-PingReq-clause-served
returns-in-PingReq-clause-served g c =
    serves_unhandled g.H.PointHash.hash_of g.L.Link.may_answer (between g.A.HandlerMut.handled c.args.handler.now c.args.handler.now) c.args.message.now c.args.now
    (PingReq c.in-PingReq.field-0 c.in-PingReq.target) (PassesOn g.L.Link.may_answer c.args.message.now c.args.now c.in-PingReq.target) c.in-PingReq.is (λ acts h. h) refl
    c.serve_ping_req.ensures.did

pub returns-in-PingReq-clause-sent : goal.returns-in-PingReq-clause-sent
returns-in-PingReq-clause-sent g c = sent_over c.new-peers.ensures.link (search rules) c.serve_ping_req.ensures.sent

pub returns-in-Forward-clause-sent : goal.returns-in-Forward-clause-sent
returns-in-Forward-clause-sent g c =
    (sent_hushed {a = c.args.link} (hushes_forwards g.H.PointHash.hash_of (between g.A.HandlerMut.handled c.args.handler.now c.serve_forward.new.handler) c.in-Forward.keys c.in-Forward.body) c.serve_forward.ensures.did).makes
