-- Lists of servers, each with a weight. The servers are those of ringpop-go, package hashring; weights are this project's.
use Rattle.std.specs.Prelude.{◌≡◌, ℕ, ◌<◌, Bool, false, not, ◌==◌, List, [], ◌∷◌, Option, Some, None, map}
use Rattle.std.specs.List.{filter, find}
use Rattle.std.specs.Option.{option_map}
use Rattle.std.specs.Ordering.{nat_cmp, ordering_then}
use Rattle.std.specs.declared.cmp.Ordering.{Ordering}
use Rattle.change_core.specs.declared.addresses.Address.{Address}
use Rattle.change_core.specs.Ascending.{put, In, IsAscending}
use Rattle.hash_ring.specs.declared.servers.Server.{Server}

-- as `==` of two addresses tests
abbrev pub is_same : Address → Address → Bool
is_same a b = a == b

-- the address of a server
abbrev pub address_of_server : Server → Address
address_of_server s = s.address

-- the addresses of servers, in their order
abbrev pub addresses_of : List Server → List Address
addresses_of servers = map address_of_server servers

-- by address, then by weight
abbrev pub server_cmp : Server → Server → Ordering
server_cmp s t = ordering_then (nat_cmp s.address t.address) (nat_cmp s.weight t.weight)

-- the servers of other addresses
abbrev pub without : Address → List Server → List Server
without a servers = filter (λ s. not (is_same s.address a)) servers

-- the servers with s, replacing any other of its address, ascending
abbrev pub with_server : Server → List Server → List Server
with_server s servers = put server_cmp s (without s.address servers)

-- these servers added one after another, so that of two of one address the later stays
abbrev pub with_each : List Server → List Server → List Server
with_each [] servers = servers
with_each (s ∷ ss) servers = with_each ss (with_server s servers)

-- the weight of the server of an address
abbrev pub weight_of : Address → List Server → Option ℕ
weight_of a servers = option_map (λ s. s.weight) (find (λ s. is_same s.address a) servers)

-- its weight, and 0 if there is no such server
abbrev pub weight_or_none : Option ℕ → ℕ
weight_or_none None = 0
weight_or_none (Some w) = w

-- the weight of an address among the servers, and 0 if it is not among them
abbrev pub shares : Address → List Server → ℕ
shares a servers = weight_or_none (weight_of a servers)

-- servers of one address are the same server
abbrev pub EachOnce : List Server → Type 0
EachOnce servers = (s t : Server) → In s servers → In t servers → s.address ≡ t.address → s ≡ t

-- each server has a weight, each address appears once, and they ascend
pub record AreServers (servers : List Server) : Type 0 where
  pub ascends : IsAscending server_cmp servers
  pub once : EachOnce servers
  pub weighed : (s : Server) → In s servers → 0 < s.weight

-- whether a server is there, and with this weight
abbrev pub has_weight : ℕ → Option ℕ → Bool
has_weight w None = false
has_weight w (Some v) = v == w
