use Rattle.locked_node.proofs.Losses.{losses_are_taken_once}
use Rattle.locked_node.proofs.laws.losses.Goals as goal

pub returns : goal.returns
returns g c = losses_are_taken_once g.H.PointHash.hash_of
