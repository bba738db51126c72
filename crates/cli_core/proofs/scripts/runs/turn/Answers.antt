use Rattle.std.proofs.Common.{refl, inr, string_bytes}
use Rattle.cli_core.proofs.ScriptTurns.{turn_done, turn_refused, turn_unwritten}
use Rattle.cli_core.proofs.scripts.runs.turn.Goals as goal

pub returns-in-Ok-write_text-clause-turn : goal.returns-in-Ok-write_text-clause-turn
returns-in-Ok-write_text-clause-turn g c =
    turn_done g.H.PointHash.hash_of c.args.simulation.now c.answer_line.new.simulation (g.R.Read.remaining c.args.reader.now) (g.R.Read.remaining c.next_line.new.reader)
    (g.W.Write.contents c.args.writer.now) (g.W.Write.contents c.write_text.new.writer) c.args.number c.in-Ok-Some.line (string_bytes c.in-Ok.text)
    (rw c.in-Ok-Some.field-0-is at c.in-Ok-Some.ensures.read) (rw c.as_slice.ensures.value at c.in-Ok.ensures.answer) (rw c.as_str.ensures.value at c.in-Ok-write_text.ensures.ok)

pub returns-clause-turn : goal.returns-clause-turn
returns-clause-turn g c =
    turn_unwritten g.H.PointHash.hash_of c.args.simulation.now c.answer_line.new.simulation (g.R.Read.remaining c.args.reader.now) (g.R.Read.remaining c.next_line.new.reader)
    (g.W.Write.contents c.args.writer.now) (g.W.Write.contents c.write_text.new.writer) c.args.number c.in-Ok-Some.line (string_bytes c.in-Ok.text)
    (rw c.in-Ok-Some.field-0-is at c.in-Ok-Some.ensures.read) (rw c.as_slice.ensures.value at c.in-Ok.ensures.answer)
    (rw (c.in-Err-write_text.ensures.refusal, c.as_str.ensures.value) at c.in-Err-write_text.ensures.left) ((rw c.in-Ok-Some.field-0-is at c.in-Ok-Some.ensures.counted) refl)

pub returns-in-Err-answer_line-clause-turn : goal.returns-in-Err-answer_line-clause-turn
returns-in-Err-answer_line-clause-turn g c =
    turn_refused g.H.PointHash.hash_of c.args.simulation.now c.answer_line.new.simulation (g.R.Read.remaining c.args.reader.now) (g.R.Read.remaining c.next_line.new.reader)
    (g.W.Write.contents c.args.writer.now) c.args.number c.in-Ok-Some.line c.in-Err-answer_line.fault
    (rw c.in-Ok-Some.field-0-is at c.in-Ok-Some.ensures.read) (rw c.as_slice.ensures.value at c.in-Err-answer_line.ensures.fault)
    (inr ((rw c.in-Ok-Some.field-0-is at c.in-Ok-Some.ensures.counted) refl))
