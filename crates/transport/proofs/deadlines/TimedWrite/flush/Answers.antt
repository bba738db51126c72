use Rattle.std.proofs.KnownBytes.{Keeps-refl, Keeps-trans}
use Rattle.transport.specs.Deadlines.{stream_of}
use Rattle.transport.proofs.deadlines.TimedWrite.flush.Goals as goal

pub flushes-init : goal.flushes-init
flushes-init g c = Keeps-refl (g.S.Write.contents (stream_of c.args.self.now))

pub returns-in-Ok-clause-bytes : goal.returns-in-Ok-clause-bytes
returns-in-Ok-clause-bytes g c =
    Keeps-trans (g.S.Write.contents (stream_of c.args.self.now)) (g.S.Write.contents (stream_of c.flushes.self)) (g.S.Write.contents (stream_of c.flush_once.new.self))
    c.flushes.invariant c.flush_once.ensures

pub returns-in-Err-2-clause-bytes : goal.returns-in-Err-2-clause-bytes
returns-in-Err-2-clause-bytes g c =
    Keeps-trans (g.S.Write.contents (stream_of c.args.self.now)) (g.S.Write.contents (stream_of c.flushes.self)) (g.S.Write.contents (stream_of c.flush_once.new.self))
    c.flushes.invariant c.flush_once.ensures

pub flushes-preserved : goal.flushes-preserved
flushes-preserved g c =
    Keeps-trans (g.S.Write.contents (stream_of c.args.self.now)) (g.S.Write.contents (stream_of c.flushes.self)) (g.S.Write.contents (stream_of c.flush_once.new.self))
    c.flushes.invariant c.flush_once.ensures

pub returns-clause-bytes : goal.returns-clause-bytes
returns-clause-bytes g c = c.flushes.invariant
