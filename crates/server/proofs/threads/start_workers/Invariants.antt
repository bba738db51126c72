use Rattle.std.proofs.Common.{All, ◌≡◌, ◌+◌, ◌≤◌}
use Rattle.std.specs.Prelude.{vec_len}
use Rattle.std.specs.Arc.{arc_value}
use Rattle.std.specs.Vec.{vec_capacity}
use Rattle.locked_node.specs.Passes.{Fits}
use Rattle.server.proofs.Crew.{Taken}
use Rattle.server.specs.Threads.{IsWorker}
use Rattle.server.proofs.threads.start_workers.Given as goal

-- the passes that are left fit the node, each of the others was given to a worker, and there is room for all in both
abbrev pub invariant-passes : goal.invariant-passes
invariant-passes g l = record {
  fits : All (Fits (arc_value l.server).node) l.passes.items;
  room : vec_len l.workers + vec_len l.passes ≤ vec_capacity l.workers;
  back : vec_len l.passes + vec_len l.workers ≡ vec_len l.fn.passes;
  capacity : vec_capacity l.passes ≡ vec_capacity l.fn.passes;
  started : Taken (IsWorker (arc_value l.server)) l.fn.passes.items l.passes.items l.workers.items;
}

-- the passes that are left
abbrev pub decreases-passes : goal.decreases-passes
decreases-passes g l = vec_len l.passes
