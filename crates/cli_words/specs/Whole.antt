-- The arguments that each subcommand has to have, and the errors of arguments.
use Rattle.std.specs.Prelude.{◌≡◌, ◌≢◌, ◌⊎◌, ◌<◌, ◌≤◌, ◌^◌, ℕ, true, List, Option, Some, IfSome, IsSome, IsSomeAnd, codes, length}
use Rattle.std.specs.List.{Any}
use Rattle.clap.specs.Words.{Row, Text, all_of, first_of}
use Rattle.http_header.specs.FieldName.{IsFieldName}
use Rattle.change_core.specs.Address.{IsAddress, address_text}
use Rattle.cluster_names.specs.Names.{IsName}
use Rattle.change_core.specs.Numbers.{IsWeight, greatest_number, most_members}
use Rattle.hash_ring.specs.Points.{IsReplicas}
use Rattle.node_core.specs.Workers.{IsCrew}
use Rattle.cli_core.specs.Words.{IsPerMessage, IsPiggyback, IsRequests}
use Rattle.cli_words.specs.Words.{IsFlagAt, IsNumberAt, level_name}
use Rattle.cli_words.specs.declared.agent_words.LogLevel.{LogLevel}
use Rattle.cli_words.specs.declared.faults.WordsError.{WordsError}
use Rattle.cli_words.specs.declared.faults.WordsError.TheVariants.{Usage, BadAddress, BadAddressAt, OutOfMemory}

-- the argument of this name is there, and it is one of these numbers
abbrev pub HasNumber : List Row → Text → (ℕ → Type 0) → Type 0
HasNumber rows name IsIn = (n : ℕ) × IsNumberAt rows name n × IsIn n

-- each argument of `owner` is there, and each number in its range
pub record HasOwned (rows : List Row) : Type 0 where
  pub count : HasNumber rows (codes "n") (λ n. n ≤ most_members)
  pub replicas : HasNumber rows (codes "replicas") IsReplicas
  pub key : IsSome (first_of (codes "key") rows)

-- so is each number of `serve`
pub record HasNumbers (rows : List Row) : Type 0 where
  pub incarnation : HasNumber rows (codes "incarnation") (λ n. n ≤ greatest_number)
  pub requests : HasNumber rows (codes "requests") IsRequests
  pub workers : HasNumber rows (codes "workers") IsCrew
  pub period : HasNumber rows (codes "period") (λ n. n ≤ greatest_number)
  pub replicas : HasNumber rows (codes "replicas") IsReplicas
  pub weight : HasNumber rows (codes "weight") IsWeight
  pub per_message : HasNumber rows (codes "per-message") IsPerMessage
  pub piggyback : HasNumber rows (codes "piggyback") IsPiggyback

-- and its address is there, and its hosts are fewer than 2^32
pub record HasServed (rows : List Row) : Type 0 where
  pub address : IsSome (first_of (codes "address") rows)
  pub few : IfSome (all_of (codes "host") rows) (λ hosts. length hosts < 2 ^ 32)
  pub numbers : HasNumbers rows

-- the argument for the level of the log is there, and it is the name of a level
abbrev pub HasLevel : List Row → Type 0
HasLevel rows = (level : LogLevel) × (first_of (codes "log") rows ≡ Some (level_name level))

-- the seconds after which a node leaves are there, and in their range
abbrev pub HasLeaveAfter : List Row → Type 0
HasLeaveAfter rows = HasNumber rows (codes "leave-after") (λ n. n ≤ 86400)

-- the argument for the field that names keys is there, and it is the name of a field of HTTP
abbrev pub HasKeyField : List Row → Type 0
HasKeyField rows = IsSomeAnd (first_of (codes "key-field") rows) IsFieldName

-- the argument for the name of the cluster is absent, or it is a name
abbrev pub HasCluster : List Row → Type 0
HasCluster rows = IfSome (first_of (codes "cluster") rows) IsName

-- each number of `agent` but its incarnation is there and in its range, and the level of its log is there
pub record HasAgentNumbers (rows : List Row) : Type 0 where
  pub hands : HasNumber rows (codes "hands") (λ n. (1 ≤ n) × (n ≤ 256))
  pub http_connections : HasNumber rows (codes "http-connections") (λ n. (1 ≤ n) × (n ≤ 65536))
  pub period : HasNumber rows (codes "period") (λ n. (1 ≤ n) × (n ≤ 60000))
  pub per_message : HasNumber rows (codes "per-message") (λ n. (1 ≤ n) × (n ≤ most_members))
  pub replicas : HasNumber rows (codes "replicas") IsReplicas
  pub weight : HasNumber rows (codes "weight") IsWeight
  pub level : HasLevel rows
  pub leave_after : HasLeaveAfter rows

-- and its address is there, the field that names keys, and a name of the cluster or none
pub record HasAgent (rows : List Row) : Type 0 where
  pub address : IsSome (first_of (codes "address") rows)
  pub key_field : HasKeyField rows
  pub cluster : HasCluster rows
  pub numbers : HasAgentNumbers rows

-- each argument of `ask` is there
pub record HasAsked (rows : List Row) : Type 0 where
  pub address : IsSome (first_of (codes "address") rows)
  pub key : IsSome (first_of (codes "key") rows)
  pub body : IsSome (first_of (codes "body") rows)

-- and, if the owner is asked, the number of points
abbrev pub HasAnyAsked : List Row → Type 0
HasAnyAsked rows = HasAsked rows × HasNumber rows (codes "replicas") IsReplicas

-- the names of the subcommands that write lines, which all but `hash` read, and of those that speak to nodes
abbrev pub IsOfLines : Text → Type 0
IsOfLines name = (name ≡ codes "fold") ⊎ ((name ≡ codes "hash") ⊎ ((name ≡ codes "owner") ⊎ (name ≡ codes "sim")))

-- the names of the subcommands that speak to nodes
abbrev pub IsOfNodes : Text → Type 0
IsOfNodes name = (name ≡ codes "serve") ⊎ ((name ≡ codes "ask") ⊎ ((name ≡ codes "members") ⊎ (name ≡ codes "tell")))

-- there is a subcommand of this name, each of its arguments is there and in its range, its hosts are fewer than 2^32, and the name of its cluster is one
pub record IsWhole (name : Text) (rows : List Row) : Type 0 where
  pub known : IsOfLines name ⊎ (IsOfNodes name ⊎ (name ≡ codes "agent"))
  pub hash : name ≡ codes "hash" → IsSome (first_of (codes "text") rows)
  pub owner : name ≡ codes "owner" → HasOwned rows
  pub sim : name ≡ codes "sim" → HasNumber rows (codes "replicas") IsReplicas
  pub serve : name ≡ codes "serve" → HasServed rows
  pub agent : name ≡ codes "agent" → HasAgent rows
  pub ask : name ≡ codes "ask" → HasAsked rows
  pub any : name ≡ codes "ask" → IsFlagAt rows (codes "any") true → HasNumber rows (codes "replicas") IsReplicas
  pub members : name ≡ codes "members" → IsSome (first_of (codes "host") rows)
  pub tell : name ≡ codes "tell" → IsSome (first_of (codes "host") rows)
  pub cluster : IsOfNodes name → HasCluster rows

-- the text is not that of an address
abbrev pub IsNoAddress : Text → Type 0
IsNoAddress text = (a : ℕ) → IsAddress a → text ≢ address_text a

-- the argument of this name is there, and is not an address
abbrev pub IsNoAddressAt : List Row → Text → Type 0
IsNoAddressAt rows name = IsSomeAnd (first_of name rows) IsNoAddress

-- one of the arguments of this name is not an address
abbrev pub IsNoAddressAmong : List Row → Text → Type 0
IsNoAddressAmong rows name = IsSomeAnd (all_of name rows) (Any IsNoAddress)

-- an argument that has to be an address is not one
abbrev pub HasBadAddress : List Row → Type 0
HasBadAddress rows = IsNoAddressAt rows (codes "address") ⊎ (IsNoAddressAt rows (codes "host") ⊎ IsNoAddressAmong rows (codes "host"))

-- the argument of `agent` that the help writes so is not an address
pub data IsBadArgument (rows : List Row) : Text → Type 0 where
  address : IsNoAddressAt rows (codes "address") → IsBadArgument rows (codes "ADDRESS")
  bind : IsNoAddressAt rows (codes "bind") → IsBadArgument rows (codes "--bind")
  http : IsNoAddressAt rows (codes "http") → IsBadArgument rows (codes "--http")
  app : IsNoAddressAt rows (codes "app") → IsBadArgument rows (codes "--app")
  host : IsNoAddressAmong rows (codes "host") → IsBadArgument rows (codes "HOST")

-- the error of the arguments of `agent`, as of any, but a bad address is named
abbrev pub IsAgentRefusal : Type 0 → List Row → WordsError → Type 0
IsAgentRefusal whole rows (Usage e) = ¬ whole
IsAgentRefusal whole rows BadAddress = ⊥
IsAgentRefusal whole rows (BadAddressAt argument) = IsBadArgument rows argument.now
IsAgentRefusal whole rows OutOfMemory = Unit {0}

-- the error of the arguments, if they name this subcommand with these arguments after it: only `agent` names a bad address
abbrev pub IsRefusalBy : Option (Text × List Row) → WordsError → Type 0
IsRefusalBy named (Usage e) = ¬ IfSome named (λ p. IsWhole p.0 p.1)
IsRefusalBy named BadAddress = IsSomeAnd named (λ p. (p.0 ≢ codes "agent") × HasBadAddress p.1)
IsRefusalBy named (BadAddressAt argument) = IsSomeAnd named (λ p. (p.0 ≡ codes "agent") × IsBadArgument p.1 argument.now)
IsRefusalBy named OutOfMemory = Unit {0}
