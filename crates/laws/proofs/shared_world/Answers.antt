use Rattle.laws.proofs.Closing.{closed_nodes_are_shared}
use Rattle.laws.proofs.Sharing.{shared_nodes_are_worlds}
use Rattle.laws.proofs.shared_world.Goals as goal

pub returns-clause-worlds : goal.returns-clause-worlds
returns-clause-worlds g c = shared_nodes_are_worlds g.H.PointHash.hash_of

pub returns-clause-closed : goal.returns-clause-closed
returns-clause-closed g c = closed_nodes_are_shared g.H.PointHash.hash_of
