use Rattle.locked_node.proofs.Histories.{calls_show_legal, closing_shows_legal}
use Rattle.locked_node.proofs.laws.legality.Goals as goal

pub returns-clause-called : goal.returns-clause-called
returns-clause-called g c = calls_show_legal g.H.PointHash.hash_of

pub returns-clause-closed : goal.returns-clause-closed
returns-clause-closed g c = closing_shows_legal g.H.PointHash.hash_of
