use Rattle.std.proofs.Common.{◌≡◌, ◌+◌, ◌*◌, ◌≤◌}
use Rattle.std.specs.Prelude.{vec_len}
use Rattle.std.specs.Vec.{vec_capacity}
use Rattle.server.proofs.Crew.{SomeBack}
use Rattle.server.specs.Threads.{IsWorkerBack}
use Rattle.server.proofs.threads.end_workers.Given as goal

-- the workers that are not left gave their passes back, there is room for those of the others, and each served fewer than 2^64 connections
abbrev pub invariant-workers : goal.invariant-workers
invariant-workers g l = record {
  room : vec_len l.passes + vec_len l.workers ≤ vec_capacity l.passes;
  count : vec_len l.passes + vec_len l.workers ≡ vec_len l.fn.passes + vec_len l.fn.workers;
  capacity : vec_capacity l.passes ≡ vec_capacity l.fn.passes;
  few : l.connections ≤ vec_len l.passes * 18446744073709551615;
  back : SomeBack (IsWorkerBack g.H.PointHash.hash_of g.A.Handler.may_handle) l.fn.workers.items l.workers.items l.fn.passes.items l.passes.items l.connections;
}

-- the workers that are left
abbrev pub decreases-workers : goal.decreases-workers
decreases-workers g l = vec_len l.workers
