-- Limits of time that run, and streams under them.
use Rattle.std.specs.declared.time.Duration.{Duration}
use Rattle.transport.specs.declared.deadlines.Deadline.{Deadline}
use Rattle.transport.specs.declared.deadlines.Timed.{Timed}

-- how long a deadline runs altogether
abbrev pub limit_of : {C : Type 0} → Deadline C → Duration
limit_of deadline = deadline.limit

module _ {S C : Type 0} where
  -- the stream below a timed one
  abbrev pub stream_of : Timed S C → S
  stream_of timed = timed.stream

  -- the deadline of a timed stream
  abbrev pub deadline_of : Timed S C → Deadline C
  deadline_of timed = timed.deadline
