use Rattle.std.proofs.Common.{None, refl}
use Rattle.transport.specs.Deadlines.{stream_of}
use Rattle.peer_core.specs.Handling.{between}
use Rattle.server.proofs.Worked.{a_connection, over_heard, over_quiet}
use Rattle.server.proofs.connections.serve_connection.Goals as goal

-- no line was heard
pub returns-in_default-clause-over : goal.returns-in_default-clause-over
returns-in_default-clause-over g c =
    over_quiet g.H.PointHash.hash_of (between g.A.HandlerMut.handled c.args.handler.now c.args.handler.now) c.args.member.now.node g.S.Read.remaining g.S.Write.contents c.args.stream c.args.member.now.pass.now refl

pub returns-in_default-clause-made : goal.returns-in_default-clause-made
returns-in_default-clause-made g c =
    a_connection g.H.PointHash.hash_of (between g.A.HandlerMut.handled c.args.handler.now c.args.handler.now) c.args.member.now.node g.S.Read.remaining g.S.Write.contents c.args.stream None c.args.member.now.pass.now c.args.member.now.pass.now
    (returns-in_default-clause-over g c)

pub returns-clause-over : goal.returns-clause-over
returns-clause-over g c =
    over_heard g.H.PointHash.hash_of (between g.A.HandlerMut.handled c.args.handler.now c.answer_over.new.handler) c.args.member.now.node g.S.Read.remaining g.S.Write.contents c.args.stream c.hear.result (stream_of c.new-stream.result)
    _ c.answer_over.result c.args.member.now.pass.now c.answer_over.new.member.pass.now c.new-stream.ensures.stream c.hear.ensures c.answer_over.ensures.answered

pub returns-clause-made : goal.returns-clause-made
returns-clause-made g c =
    a_connection g.H.PointHash.hash_of (between g.A.HandlerMut.handled c.args.handler.now c.answer_over.new.handler) c.args.member.now.node g.S.Read.remaining g.S.Write.contents c.args.stream c.answer_over.result c.args.member.now.pass.now
    c.answer_over.new.member.pass.now (returns-clause-over g c)
