use Rattle.std.proofs.Common.{Err, take}
use Rattle.std.proofs.KnownBytes.{Keeps-refl, Keeps-trans}
use Rattle.transport.specs.Deadlines.{stream_of}
use Rattle.transport.proofs.Kept.{consumes_kept, read_kept}
use Rattle.transport.proofs.deadlines.TimedRead.read.Goals as goal

pub reads-init : goal.reads-init
reads-init g c = Keeps-refl (g.S.Read.remaining (stream_of c.args.self.now))

pub returns-in-Ok-clause-bytes : goal.returns-in-Ok-clause-bytes
returns-in-Ok-clause-bytes g c = (
  consumes_kept (g.S.Read.remaining (stream_of c.args.self.now)) (g.S.Read.remaining (stream_of c.reads.self)) (g.S.Read.remaining (stream_of c.read_once.new.self))
      (take c.in-Ok.count c.read_once.new.buf) c.reads.invariant c.in-Ok.ensures.bytes.0,
  c.in-Ok.ensures.bytes.1,
)

pub returns-in-Err-2-clause-bytes : goal.returns-in-Err-2-clause-bytes
returns-in-Err-2-clause-bytes g c =
    read_kept (g.S.Read.remaining (stream_of c.args.self.now)) (g.S.Read.remaining (stream_of c.reads.self)) (g.S.Read.remaining (stream_of c.read_once.new.self))
    (Err c.in-Err-2.fault) c.read_once.new.buf c.reads.invariant c.in-Err-2.ensures.bytes

pub reads-preserved : goal.reads-preserved
reads-preserved g c =
    Keeps-trans (g.S.Read.remaining (stream_of c.args.self.now)) (g.S.Read.remaining (stream_of c.reads.self)) (g.S.Read.remaining (stream_of c.read_once.new.self))
    c.reads.invariant c.in-Err.ensures.bytes

pub returns-clause-bytes : goal.returns-clause-bytes
returns-clause-bytes g c = c.reads.invariant
