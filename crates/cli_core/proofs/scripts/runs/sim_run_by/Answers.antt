use Rattle.std.proofs.Common.{◌≤◌, refl, arith}
use Rattle.change_core.specs.Numbers.{greatest_number}
use Rattle.cli_core.specs.Simulated.{beginning}
use Rattle.cli_core.proofs.ScriptTurns.{ends, goes, starts, stops}
use Rattle.cli_core.proofs.scripts.runs.sim_run_by.Goals as goal

pub lines-preserved : goal.lines-preserved
lines-preserved g c =
    let test = c.in-Ok-true.field-0-test in
    let few : c.lines.number ≤ greatest_number = (rw test at c.in-Ok-true.ensures.counted) refl in
    record {
      counted = omega arith;
      answered =
          goes g.H.PointHash.hash_of (beginning c.args.hash c.args.replicas) (g.R.Read.remaining c.args.reader.now) (g.R.Read.remaining c.lines.reader) (g.R.Read.remaining c.turn.new.reader)
          (g.W.Write.contents c.args.writer.now) (g.W.Write.contents c.lines.writer) (g.W.Write.contents c.turn.new.writer) c.lines.number c.lines.simulation c.turn.new.simulation
          c.lines.invariant.answered (rw test at c.in-Ok-true.ensures.turn);
    }

pub returns-in-Ok-false-clause-output : goal.returns-in-Ok-false-clause-output
returns-in-Ok-false-clause-output g c =
    ends g.H.PointHash.hash_of (beginning c.args.hash c.args.replicas) (g.R.Read.remaining c.args.reader.now) (g.R.Read.remaining c.lines.reader) (g.R.Read.remaining c.turn.new.reader)
    (g.W.Write.contents c.args.writer.now) (g.W.Write.contents c.lines.writer) (g.W.Write.contents c.turn.new.writer) c.lines.number c.lines.simulation c.turn.new.simulation
    c.lines.invariant.answered c.lines.invariant.counted (rw c.in-Ok-false.field-0-test at c.in-Ok-false.ensures.turn)

pub returns-in-Err-clause-fault : goal.returns-in-Err-clause-fault
returns-in-Err-clause-fault g c =
    stops g.H.PointHash.hash_of (beginning c.args.hash c.args.replicas) (g.R.Read.remaining c.args.reader.now) (g.R.Read.remaining c.lines.reader) (g.R.Read.remaining c.turn.new.reader)
    (g.W.Write.contents c.args.writer.now) (g.W.Write.contents c.lines.writer) (g.W.Write.contents c.turn.new.writer) c.lines.number c.lines.simulation c.turn.new.simulation c.in-Err.fault
    c.lines.invariant.answered c.in-Err.ensures.turn

pub lines-init : goal.lines-init
lines-init g c = record {
  counted = omega arith;
  answered = starts g.H.PointHash.hash_of (beginning c.args.hash c.args.replicas) c.new-simulation.result (g.R.Read.remaining c.args.reader.now) (g.W.Write.contents c.args.writer.now) c.new-simulation.ensures;
}
