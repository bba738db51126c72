use Rattle.std.specs.Io.KnownBytes.{Keeps}
use Rattle.transport.specs.Deadlines.{stream_of}
use Rattle.transport.proofs.deadlines.TimedRead.read.Given as goal

-- the reads so far failed, and took nothing
abbrev pub invariant-reads : goal.invariant-reads
invariant-reads g l = Keeps (g.S.Read.remaining (stream_of l.initial.self)) (g.S.Read.remaining (stream_of l.self))
