use Rattle.std.proofs.Common.{refl}
use Rattle.cli_core.proofs.Scripting.{untold_line}
use Rattle.cli_core.proofs.scripts.runs.answer_line.Goals as goal

pub returns-in_default-clause-fault : goal.returns-in_default-clause-fault
returns-in_default-clause-fault g c = (c.requires, c.in_default.ensures.none refl)

pub returns-clause-fault : goal.returns-clause-fault
returns-clause-fault g c =
    untold_line g.H.PointHash.hash_of c.args.simulation.now c.obey.new.self c.args.line.now c.in-Some.command c.in_ok-answer.answer c.text.result
    c.requires c.in-Some.ensures.read c.in_ok-answer.ensures.answer c.text.ensures.refusal
