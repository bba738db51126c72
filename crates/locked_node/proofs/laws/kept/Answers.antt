use Rattle.locked_node.proofs.Histories.{histories_keep_it}
use Rattle.locked_node.proofs.laws.kept.Goals as goal

pub returns : goal.returns
returns g c = histories_keep_it g.H.PointHash.hash_of
