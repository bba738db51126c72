use Rattle.node_core.proofs.Synchronised.{nodes_synchronise}
use Rattle.node_core.proofs.Synchronising.{takes_greatest}
use Rattle.node_core.proofs.laws.synchronisation.Goals as goal

pub returns-clause-batch : goal.returns-clause-batch
returns-clause-batch g c = takes_greatest

pub returns-clause-nodes : goal.returns-clause-nodes
returns-clause-nodes g c = nodes_synchronise
