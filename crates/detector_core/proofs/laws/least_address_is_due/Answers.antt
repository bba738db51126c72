use Rattle.detector_core.proofs.TimerLemmas.{gives_least_due}
use Rattle.detector_core.proofs.laws.least_address_is_due.Goals as goal

pub returns : goal.returns
returns c = gives_least_due
