use Rattle.cli_core.proofs.Exact.{one_output, no_refusal}
use Rattle.cli_core.proofs.OneFirstFault.{one_first_fault}
use Rattle.cli_core.proofs.SameLines.{runs_to_same}
use Rattle.cli_core.proofs.laws.one_run.Goals as goal

pub returns-clause-one_output : goal.returns-clause-one_output
returns-clause-one_output c = one_output

pub returns-clause-no_fault : goal.returns-clause-no_fault
returns-clause-no_fault c = no_refusal

pub returns-clause-one_fault : goal.returns-clause-one_fault
returns-clause-one_fault c = one_first_fault

pub returns-clause-any_order : goal.returns-clause-any_order
returns-clause-any_order c = runs_to_same
