use Rattle.std.proofs.Common.{◌≡◌, ◌≤◌, take, length, vec_len, vec_capacity}
use Rattle.node_core.specs.Run.{IsRun}
use Rattle.node_core.proofs.runs.run.Given as goal

-- the events before this one have been run, and there is room for a reply to each
abbrev pub invariant-loop-event : goal.invariant-loop-event
invariant-loop-event g l = record {
  ran : IsRun g.H.PointHash.hash_of l.fn.node.node (take l.event-index l.events) l.replies.items l.node.node;
  many : vec_len l.replies ≡ l.event-index;
  room : length l.events ≤ vec_capacity l.replies;
}
