use Rattle.std.specs.Io.KnownBytes.{Keeps}
use Rattle.transport.specs.Deadlines.{stream_of}
use Rattle.transport.proofs.deadlines.TimedWrite.write.Given as goal

-- the tries so far failed, and wrote nothing
abbrev pub invariant-writes : goal.invariant-writes
invariant-writes g l = Keeps (g.S.Write.contents (stream_of l.initial.self)) (g.S.Write.contents (stream_of l.self))
