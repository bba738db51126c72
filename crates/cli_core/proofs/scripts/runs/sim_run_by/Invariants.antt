use Rattle.std.proofs.Common.{◌+◌, ◌-◌, ◌≤◌}
use Rattle.change_core.specs.Numbers.{greatest_number}
use Rattle.cli_core.specs.Simulated.{beginning}
use Rattle.cli_core.proofs.ScriptTurns.{HasAnswered}
use Rattle.cli_core.proofs.scripts.runs.sim_run_by.Given as goal

-- the lines before this number are answered
abbrev pub invariant-lines : goal.invariant-lines
invariant-lines g l = record {
  counted : l.number ≤ greatest_number + 1;
  answered : HasAnswered g.H.PointHash.hash_of (beginning l.fn.hash l.fn.replicas) (g.R.Read.remaining l.fn.reader) (g.R.Read.remaining l.reader)
      (g.W.Write.contents l.fn.writer) (g.W.Write.contents l.writer) l.number l.simulation;
}

-- the lines that may yet come
abbrev pub decreases-lines : goal.decreases-lines
decreases-lines g l = greatest_number + 2 - l.number
