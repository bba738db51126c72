use Rattle.std.proofs.Common.{ap}
use Rattle.change_core.specs.Members.{members}
use Rattle.hash_ring.specs.Points.{owners}
use Rattle.agent_core.proofs.Ringing.{ring_once, servers_once}
use Rattle.agent_core.proofs.laws.rings.Goals as goal

pub returns-clause-serving : goal.returns-clause-serving
returns-clause-serving c = ring_once

pub returns-clause-servers : goal.returns-clause-servers
returns-clause-servers c = servers_once

pub returns-clause-owners : goal.returns-clause-owners
returns-clause-owners c = λ hash replicas key a b e. ap (λ servers. owners hash replicas servers key) (servers_once a b (ring_once (members a) (members b) e))
