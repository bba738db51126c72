use Rattle.node_core.proofs.Itself.{calls_leave_itself}
use Rattle.node_core.proofs.laws.identity.Goals as goal

pub returns : goal.returns
returns g c = calls_leave_itself g.H.PointHash.hash_of
