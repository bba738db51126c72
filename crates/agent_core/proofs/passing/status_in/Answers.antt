use Rattle.agent_core.proofs.Passed.{digits_of, no_digits}
use Rattle.agent_core.proofs.passing.status_in.Goals as goal

pub returns-clause-status : goal.returns-clause-status
returns-clause-status c = digits_of c.number_in.result c.args.digits.now c.number_in.ensures.number

pub returns-clause-none : goal.returns-clause-none
returns-clause-none c = no_digits c.number_in.result c.args.digits.now c.number_in.ensures.number
