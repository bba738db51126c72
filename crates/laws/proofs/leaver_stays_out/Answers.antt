use Rattle.laws.proofs.Leaving.{leavers_stay_out}
use Rattle.laws.proofs.leaver_stays_out.Goals as goal

pub returns : goal.returns
returns g c = leavers_stay_out g.H.PointHash.hash_of
