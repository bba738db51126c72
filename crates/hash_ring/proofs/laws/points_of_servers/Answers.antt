use Rattle.hash_ring.proofs.Members.{Contains-points, points-in_order}
use Rattle.hash_ring.proofs.laws.points_of_servers.Goals as goal

pub returns-clause-exactly : goal.returns-clause-exactly
returns-clause-exactly c = Contains-points

pub returns-clause-in_order : goal.returns-clause-in_order
returns-clause-in_order c = points-in_order
