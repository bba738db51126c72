use Rattle.line_service.proofs.Answered.{unsent_refusal}
use Rattle.line_service.proofs.answering.line_of.Goals as goal

pub returns-in-Err-clause-silent : goal.returns-in-Err-clause-silent
returns-in-Err-clause-silent g c =
    unsent_refusal c.args.member.now.node c.args.answer.now c.in-Err.reason c.refusal_line.result c.args.member.now.pass.now c.refusal_line.new.member.pass.now
    c.in-Err.ensures.reason c.refusal_line.ensures.silent
