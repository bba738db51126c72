use Rattle.hash_ring.proofs.Consistency.{owners-alike}
use Rattle.hash_ring.proofs.Disagreement.{owners_differ, owners_agree}
use Rattle.hash_ring.proofs.laws.confined_disagreement.Goals as goal

pub returns-clause-differ : goal.returns-clause-differ
returns-clause-differ c = owners_differ

pub returns-clause-agree : goal.returns-clause-agree
returns-clause-agree c = owners_agree

pub returns-clause-one_order : goal.returns-clause-one_order
returns-clause-one_order c = owners-alike
