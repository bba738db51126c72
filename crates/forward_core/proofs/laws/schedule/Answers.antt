use Rattle.forward_core.proofs.ScheduleLaws.{keeps_schedule}
use Rattle.forward_core.proofs.laws.schedule.Goals as goal

pub returns : goal.returns
returns g c = keeps_schedule g.H.PointHash.hash_of
