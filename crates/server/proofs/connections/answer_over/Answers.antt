use Rattle.peer_core.specs.Handling.{between}
use Rattle.server.proofs.Worked.{over_answered}
use Rattle.server.proofs.connections.answer_over.Goals as goal

pub returns-clause-answered : goal.returns-clause-answered
returns-clause-answered g c =
    over_answered g.H.PointHash.hash_of (between g.A.HandlerMut.handled c.args.handler.now c.respond-line.new.handler) c.moment-now.result c.args.member.now.node g.S.Write.contents c.args.asked.stream c.args.asked.input c.respond-line.result
    c.send_back.result c.args.member.now.pass.now c.respond-line.new.member.pass.now c.send_back.ensures c.respond-line.ensures.sent c.respond-line.ensures.silent
