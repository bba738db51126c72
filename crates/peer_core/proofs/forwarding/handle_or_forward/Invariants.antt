use Rattle.std.proofs.Common.{◌≡◌}
use Rattle.forward_core.specs.Attempts.{IsOpen, started}
use Rattle.locked_node.specs.Passes.{Fits}
use Rattle.peer_core.specs.Forwarding.{TriesOnce, way_of_try}
use Rattle.peer_core.specs.Handling.{between}
use Rattle.peer_core.specs.Parts.{Until}
use Rattle.peer_core.proofs.Parts.{Leads}
use Rattle.peer_core.proofs.Resent.{Resent}
use Rattle.peer_core.proofs.forwarding.handle_or_forward.Given as goal

-- however the handler is left at the end, so much was done; it was not called yet
abbrev pub invariant-loop : goal.invariant-loop
invariant-loop g l = record {
  left : (is : g.row.A.Denot) → Leads l.node (Until (TriesOnce g.H.PointHash.hash_of g.L.Link.may_answer (between g.A.HandlerMut.handled l.fn.handler is).once g.C.Clock.time) way_of_try (record { attempt = started l.fn.keys; body = l.fn.body }))
      (Until (TriesOnce g.H.PointHash.hash_of g.L.Link.may_answer (between g.A.HandlerMut.handled l.fn.handler is).once g.C.Clock.time) way_of_try l.request) l.fn.pass l.pass;
  unhandled : l.handler ≡ l.fn.handler;
  fits : Fits l.node l.pass;
  resent : Resent g.H.PointHash.hash_of g.L.Link.went l.fn.keys l.fn.body l.request l.node l.fn.pass l.pass l.fn.link l.link;
  is_open : IsOpen l.request.attempt.stage;
}
