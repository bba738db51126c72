use Rattle.std.proofs.Common.{◌≡◌, vec_len}
use Rattle.hash_ring.proofs.starts.SearchIndex.add.Given as goal

abbrev pub invariant-loop-point : goal.invariant-loop-point
invariant-loop-point l = vec_len l.self.counts ≡ vec_len l.initial.self.counts
