-- Two views, or two nodes, that look up one key: how they differ if they name different owners, and when they name one.
use Rattle.std.specs.Prelude.{◌≡◌, ◌≢◌, ◌⊎◌, ℕ, Bool, IsTrue, List, filter, Some}
use Rattle.std.specs.Option.{option_cmp}
use Rattle.std.specs.Ordering.{nat_cmp}
use Rattle.std.specs.declared.cmp.Ordering.TheVariants.{Less}
use Rattle.change_core.specs.Members.{greatest}
use Rattle.hash_ring.specs.Points.{owner, owners}
use Rattle.hash_ring.specs.Servers.{weight_of}
use Rattle.hash_ring.specs.Serving.{serving_weight, servers_of}
use Rattle.node_core.specs.Node.{Node}
use Rattle.node_core.specs.Viewing.{Viewed}

-- of the two different owners that views name, one has less weight in the view that does not name it
abbrev pub ViewsDisagree : {H : Type 0} → (H → List ℕ → ℕ) → Type 0
ViewsDisagree {H} hash_of =
    (one other : Viewed H) (key : List ℕ) (a b : ℕ) → one.hash ≡ other.hash → one.replicas ≡ other.replicas
    → owner (hash_of one.hash) one.replicas one.servers key ≡ Some a
    → owner (hash_of other.hash) other.replicas other.servers key ≡ Some b
    → a ≢ b
    → (option_cmp nat_cmp (weight_of a other.servers) (weight_of a one.servers) ≡ Less)
    ⊎ (option_cmp nat_cmp (weight_of b one.servers) (weight_of b other.servers) ≡ Less)

-- views that give the same weight to the owner that each of them names name one
abbrev pub ViewsAgree : {H : Type 0} → (H → List ℕ → ℕ) → Type 0
ViewsAgree {H} hash_of =
    (one other : Viewed H) (key : List ℕ) → one.hash ≡ other.hash → one.replicas ≡ other.replicas
    → ((a : ℕ) → owner (hash_of one.hash) one.replicas one.servers key ≡ Some a → weight_of a one.servers ≡ weight_of a other.servers)
    → ((b : ℕ) → owner (hash_of other.hash) other.replicas other.servers key ≡ Some b → weight_of b one.servers ≡ weight_of b other.servers)
    → owner (hash_of one.hash) one.replicas one.servers key ≡ owner (hash_of other.hash) other.replicas other.servers key

-- any servers to which views give the same weights have one order among the owners of both
abbrev pub ViewsShareOrder : {H : Type 0} → (H → List ℕ → ℕ) → Type 0
ViewsShareOrder {H} hash_of =
    (one other : Viewed H) (key : List ℕ) (shared : ℕ → Bool) → one.hash ≡ other.hash → one.replicas ≡ other.replicas
    → ((a : ℕ) → IsTrue (shared a) → weight_of a one.servers ≡ weight_of a other.servers)
    → filter shared (owners (hash_of one.hash) one.replicas one.servers key)
    ≡ filter shared (owners (hash_of other.hash) other.replicas other.servers key)

-- of the two different owners that nodes name, one serves with less weight, or not, by the entry of the node that does not name it
abbrev pub NodesDisagree : {H : Type 0} → (H → List ℕ → ℕ) → Type 0
NodesDisagree {H} hash_of =
    (one other : Node H) (key : List ℕ) (a b : ℕ) → one.hash ≡ other.hash → one.config.replicas ≡ other.config.replicas
    → owner (hash_of one.hash) one.config.replicas (servers_of one.members) key ≡ Some a
    → owner (hash_of other.hash) other.config.replicas (servers_of other.members) key ≡ Some b
    → a ≢ b
    → (option_cmp nat_cmp (serving_weight (greatest other.members a)) (serving_weight (greatest one.members a)) ≡ Less)
    ⊎ (option_cmp nat_cmp (serving_weight (greatest one.members b)) (serving_weight (greatest other.members b)) ≡ Less)

-- nodes by whose entries the owner that each of them names serves with the same weight name one
abbrev pub NodesAgreeOnOwner : {H : Type 0} → (H → List ℕ → ℕ) → Type 0
NodesAgreeOnOwner {H} hash_of =
    (one other : Node H) (key : List ℕ) → one.hash ≡ other.hash → one.config.replicas ≡ other.config.replicas
    → ((a : ℕ) → owner (hash_of one.hash) one.config.replicas (servers_of one.members) key ≡ Some a
    → serving_weight (greatest one.members a) ≡ serving_weight (greatest other.members a))
    → ((b : ℕ) → owner (hash_of other.hash) other.config.replicas (servers_of other.members) key ≡ Some b
    → serving_weight (greatest one.members b) ≡ serving_weight (greatest other.members b))
    → owner (hash_of one.hash) one.config.replicas (servers_of one.members) key
    ≡ owner (hash_of other.hash) other.config.replicas (servers_of other.members) key
