use Rattle.line_service.proofs.Answered.{unread_by}
use Rattle.line_service.proofs.inputs.decoded.Goals as goal

pub returns-in-Err : goal.returns-in-Err
returns-in-Err c = rw c.reason_of.ensures (unread_by c.args.line.now c.in-Err.fault c.in-Err.ensures.fault)
