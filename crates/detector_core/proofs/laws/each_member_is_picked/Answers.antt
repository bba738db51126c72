use Rattle.detector_core.proofs.ProbingLaws.{all_picked, bound_at_most}
use Rattle.detector_core.proofs.laws.each_member_is_picked.Goals as goal

pub returns-clause-bound : goal.returns-clause-bound
returns-clause-bound c = bound_at_most

pub returns-clause-each : goal.returns-clause-each
returns-clause-each c = all_picked
