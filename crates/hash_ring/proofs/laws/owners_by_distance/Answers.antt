use Rattle.hash_ring.proofs.Members.{Contains-owners, owners-in_order}
use Rattle.hash_ring.proofs.laws.owners_by_distance.Goals as goal

pub returns-clause-exactly : goal.returns-clause-exactly
returns-clause-exactly c = Contains-owners

pub returns-clause-in_order : goal.returns-clause-in_order
returns-clause-in_order c = owners-in_order
