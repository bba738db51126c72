use Rattle.laws.proofs.Disagreeing.{views_disagree, views_agree, views_share_order, nodes_disagree, nodes_agree_on_owner}
use Rattle.laws.proofs.confined_disagreement.Goals as goal

pub returns-clause-views : goal.returns-clause-views
returns-clause-views g c = views_disagree g.H.PointHash.hash_of

pub returns-clause-views_agree : goal.returns-clause-views_agree
returns-clause-views_agree g c = views_agree g.H.PointHash.hash_of

pub returns-clause-one_order : goal.returns-clause-one_order
returns-clause-one_order g c = views_share_order g.H.PointHash.hash_of

pub returns-clause-nodes : goal.returns-clause-nodes
returns-clause-nodes g c = nodes_disagree g.H.PointHash.hash_of

pub returns-clause-nodes_agree : goal.returns-clause-nodes_agree
returns-clause-nodes_agree g c = nodes_agree_on_owner g.H.PointHash.hash_of
