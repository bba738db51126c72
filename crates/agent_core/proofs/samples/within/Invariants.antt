use Rattle.std.proofs.Common.{◌≡◌, ◌+◌, min, sum, take}
use Rattle.agent_core.proofs.samples.within.Given as goal

abbrev pub invariant-loop-count : goal.invariant-loop-count
invariant-loop-count l = l.sum ≡ min (sum (take l.count-index (take (l.fn.bucket + 1) l.buckets))) 18446744073709551615
