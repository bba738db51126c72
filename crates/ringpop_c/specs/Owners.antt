-- The owners of a key, as an export lists them.
use Rattle.std.specs.Prelude.{◌≡◌, ◌<◌, ◌≤◌, ◌⊎◌, ◌++◌, ℕ, List, Result, Ok, Err, length, drop, map}
use Rattle.change_core.specs.Address.{ip_of, port_of}
use Rattle.hash_ring.specs.declared.hash.Sha256Hash.{Sha256Hash}
use Rattle.hash_ring.specs.Serving.{servers_of}
use Rattle.node_core.specs.declared.errors.NodeError.{NodeError}
use Rattle.node_core.specs.Node.{Node}
use Rattle.node_core.specs.Step.{NamesOwners}
use Rattle.node_core.specs.Viewing.{Viewed}
use Rattle.ringpop_c.specs.declared.codes.Code.{Code}
use Rattle.ringpop_c.specs.declared.codes.Code.TheVariants as code
use Rattle.ringpop_c.specs.declared.owners.RingpopAddress.{RingpopAddress}
use Rattle.ringpop_c.specs.Codes.{code_of_error}
use Rattle.hash_ring.specs.Points.{hash_of}

-- an address as the caller has it
abbrev pub address_told : ℕ → RingpopAddress
address_told address = record { ip = ip_of address; port = port_of address }

-- a place of the caller's for addresses: those before, and those and the written count after
pub record Place : Type 0 where
  pub before : List RingpopAddress
  pub after : List RingpopAddress
  pub count : ℕ

-- the addresses fit, they are a prefix of the place after, and their count is written
pub record Lists (addresses : List ℕ) (place : Place) : Type 0 where
  pub fits : length addresses ≤ length place.before
  pub count_is : place.count ≡ length addresses
  pub after_is : place.after ≡ map address_told addresses ++ drop (length addresses) place.before

-- addresses are listed, or the place is shorter and unchanged, and their count is written
abbrev pub TellsAddresses : List ℕ → Place → Code → Type 0
TellsAddresses addresses place answer =
    ((answer ≡ code.Done) × Lists addresses place)
    ⊎ ((answer ≡ code.ShortBuffer) × (length place.before < length addresses) × (place.count ≡ length addresses) × (place.after ≡ place.before))

-- the named owners are written, or the code is the error and the place is unchanged
abbrev pub TellsOwners : Result (List ℕ) NodeError → Place → Code → Type 0
TellsOwners (Ok owners) place answer = TellsAddresses owners place answer
TellsOwners (Err error) place answer = (answer ≡ code_of_error error) × (place.after ≡ place.before)

-- the first n owners of a key among the members of a node, by the first eight bytes of SHA-256, are written
abbrev pub OwnersBy : List ℕ → ℕ → Place → Node Sha256Hash → Code → Type 0
OwnersBy key n place node answer =
    (named : Result (List ℕ) NodeError) × NamesOwners (hash_of node.hash) node.config.replicas (servers_of node.members) key n named × TellsOwners named place answer

-- the same among the servers of a view
abbrev pub ViewOwnersBy : List ℕ → ℕ → Place → Viewed Sha256Hash → Code → Type 0
ViewOwnersBy key n place view answer =
    (named : Result (List ℕ) NodeError) × NamesOwners (hash_of view.hash) view.replicas view.servers key n named × TellsOwners named place answer
