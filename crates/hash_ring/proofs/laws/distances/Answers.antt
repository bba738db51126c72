use Rattle.hash_ring.proofs.Members.{clockwise-leads, IsLeastWay-distance, distance-IsLeastWay}
use Rattle.hash_ring.proofs.laws.distances.Goals as goal

pub returns-clause-leads : goal.returns-clause-leads
returns-clause-leads c = clockwise-leads

pub returns-clause-least : goal.returns-clause-least
returns-clause-least c = IsLeastWay-distance

pub returns-clause-only : goal.returns-clause-only
returns-clause-only c = distance-IsLeastWay
