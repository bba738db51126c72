use Rattle.std.proofs.Common.{arith}
use Rattle.agent_core.proofs.Requesting.{body_in-bad, copied_body}
use Rattle.agent_core.proofs.routes.body_of.Goals as goal

pub returns-in-Ok-clause-body : goal.returns-in-Ok-clause-body
returns-in-Ok-clause-body c =
    copied_body c.args.body.now c.text_of.result (omega arith) c.in-Ok.ensures.cases.1 (rw c.in-Ok.ensures.cases.0 at c.text_of.ensures.copy)

pub returns-in-Err-clause-refused : goal.returns-in-Err-clause-refused
returns-in-Err-clause-refused c = λ _. body_in-bad c.args.body.now (omega arith) c.in-Err.ensures.cases.0
