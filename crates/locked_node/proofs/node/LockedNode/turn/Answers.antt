use Rattle.turn_lock.specs.Passes.{number_of, seen}
use Rattle.locked_node.specs.Passes.{opening_of}
use Rattle.locked_node.proofs.Histories.{called, legal_push}
use Rattle.locked_node.proofs.node.LockedNode.turn.Goals as goal

pub leave-requires : goal.leave-requires
leave-requires g c κs within =
    let entered = c.in_ok-held.ensures in
    let pass = c.enter.new.pass in
    let legal = legal_push g.H.PointHash.hash_of (opening_of c.args.self.now).node (seen pass) c.in_ok-held.held.node.node (number_of pass)
    (g.A.LockedCall.call c.args.asked.now) (g.A.LockedCall.answer c.perform-reply.result) c.perform-reply.new.node.node entered.state.1 c.perform-reply.ensures in
    (within.0, (within.1.0, (within.1.1, (entered.entered.0, (entered.state.0, legal)))))

pub returns-clause-called : goal.returns-clause-called
returns-clause-called g c =
    let entered = c.in_ok-held.ensures in
    called g.H.PointHash.hash_of c.args.self.now c.args.pass.now c.enter.new.pass c.leave.new.pass c.in_ok-held.held.node
    (g.A.LockedCall.call c.args.asked.now) (g.A.LockedCall.answer c.perform-reply.result) c.perform-reply.new.node.node
    entered.entered.1 entered.entered.2 entered.seen entered.calls entered.state c.perform-reply.ensures
    c.leave.ensures.left.0 c.leave.ensures.left.1 c.leave.ensures.left.2 c.leave.ensures.seen c.leave.ensures.calls
