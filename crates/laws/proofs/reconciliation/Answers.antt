use Rattle.laws.proofs.Reconciling.{nodes_reconcile, reconciled_agree}
use Rattle.laws.proofs.reconciliation.Goals as goal

pub returns-clause-reconciled : goal.returns-clause-reconciled
returns-clause-reconciled g c = nodes_reconcile

pub returns-clause-agree : goal.returns-clause-agree
returns-clause-agree g c = reconciled_agree g.H.PointHash.hash_of
