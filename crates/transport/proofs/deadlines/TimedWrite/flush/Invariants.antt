use Rattle.std.specs.Io.KnownBytes.{Keeps}
use Rattle.transport.specs.Deadlines.{stream_of}
use Rattle.transport.proofs.deadlines.TimedWrite.flush.Given as goal

-- the tries so far failed, and wrote nothing
abbrev pub invariant-flushes : goal.invariant-flushes
invariant-flushes g l = Keeps (g.S.Write.contents (stream_of l.initial.self)) (g.S.Write.contents (stream_of l.self))
