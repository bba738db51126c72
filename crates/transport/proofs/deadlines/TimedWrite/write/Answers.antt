use Rattle.std.proofs.Common.{Err, take}
use Rattle.std.proofs.KnownBytes.{Keeps-refl, Keeps-trans}
use Rattle.transport.specs.Deadlines.{stream_of}
use Rattle.transport.proofs.Kept.{appends_kept, write_kept}
use Rattle.transport.proofs.deadlines.TimedWrite.write.Goals as goal

pub writes-init : goal.writes-init
writes-init g c = Keeps-refl (g.S.Write.contents (stream_of c.args.self.now))

pub returns-in-Ok-clause-bytes : goal.returns-in-Ok-clause-bytes
returns-in-Ok-clause-bytes g c =
    appends_kept (g.S.Write.contents (stream_of c.args.self.now)) (g.S.Write.contents (stream_of c.writes.self)) (g.S.Write.contents (stream_of c.write_once.new.self))
    (take c.in-Ok.count c.args.buf.now) c.writes.invariant c.in-Ok.ensures.bytes

pub returns-in-Err-2-clause-bytes : goal.returns-in-Err-2-clause-bytes
returns-in-Err-2-clause-bytes g c =
    write_kept (g.S.Write.contents (stream_of c.args.self.now)) (g.S.Write.contents (stream_of c.writes.self)) (g.S.Write.contents (stream_of c.write_once.new.self))
    (Err c.in-Err-2.fault) c.args.buf.now c.writes.invariant c.in-Err-2.ensures.bytes

pub writes-preserved : goal.writes-preserved
writes-preserved g c =
    Keeps-trans (g.S.Write.contents (stream_of c.args.self.now)) (g.S.Write.contents (stream_of c.writes.self)) (g.S.Write.contents (stream_of c.write_once.new.self))
    c.writes.invariant c.in-Err.ensures.bytes

pub returns-clause-bytes : goal.returns-clause-bytes
returns-clause-bytes g c = c.writes.invariant
