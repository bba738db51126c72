use Rattle.node_core.proofs.Agreeing.{nodes_agree, nodes_answer_by_log}
use Rattle.node_core.proofs.laws.agreement.Goals as goal

pub returns-clause-agree : goal.returns-clause-agree
returns-clause-agree g c = nodes_agree g.H.PointHash.hash_of

pub returns-clause-by_log : goal.returns-clause-by_log
returns-clause-by_log g c = nodes_answer_by_log g.H.PointHash.hash_of
