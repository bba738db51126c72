-- The servers that members of a node are. Its ring has the members that are alive or suspect, as ringpop-go's has; weights are this project's.
use Rattle.std.specs.Prelude.{ℕ, List, map, Option, Some, None, if◌then◌else◌}
use Rattle.std.specs.List.{filter}
use Rattle.change_core.specs.declared.changes.Change.{Change}
use Rattle.change_core.specs.Members.{members}
use Rattle.change_core.specs.Status.{is_serving}
use Rattle.hash_ring.specs.declared.servers.Server.{Server}

-- the server that a member is, with the member's weight
abbrev pub server_of : Change → Server
server_of c = record { address = c.address; weight = c.weight }

-- the weight with which an address serves, by its greatest change, if it does
abbrev pub serving_weight : Option Change → Option ℕ
serving_weight None = None
serving_weight (Some c) = if is_serving c.status then Some c.weight else None

-- the members of a list of changes that serve, with their weights
abbrev pub servers_of : List Change → List Server
servers_of cs = map server_of (filter (λ c. is_serving c.status) (members cs))
