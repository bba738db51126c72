-- The effect of an export on the node in its handle.
use Rattle.std.specs.Prelude.{◌≡◌, ℕ, List, Option, Some, None, Result, Ok, Err, slice_get}
use Rattle.change_core.specs.Address.{ip_of, port_of}
use Rattle.change_core.specs.declared.changes.Change.{Change}
use Rattle.hash_ring.specs.Points.{hash_of}
use Rattle.hash_ring.specs.declared.hash.Sha256Hash.{Sha256Hash}
use Rattle.node_core.specs.declared.errors.NodeError.{NodeError}
use Rattle.node_core.specs.Asserting.{LeaveStep, RejoinStep}
use Rattle.node_core.specs.Expiring.{ExpireStep}
use Rattle.node_core.specs.Node.{Node}
use Rattle.node_core.specs.Step.{owners_by}
use Rattle.ringpop_c.specs.declared.codes.Code.{Code}
use Rattle.ringpop_c.specs.declared.codes.Code.TheVariants as code
use Rattle.ringpop_c.specs.declared.entries.RingpopEntry.{RingpopEntry}
use Rattle.ringpop_c.specs.Codes.{code_number, code_of_error, code_of_result}
use Rattle.ringpop_c.specs.Entries.{TellsChange}
use Rattle.ringpop_c.specs.Owned.{HeldNode}

-- an empty handle returns that it is empty, and stays so; a full one returns a code and gets a node that the step allows
abbrev pub Does : (Node Sha256Hash → Code → Node Sha256Hash → Type 0) → Option HeldNode → ℕ → Option HeldNode → Type 0
Does step None number new = (number ≡ code_number code.NoNode) × (new ≡ None)
Does step (Some held) number None = ⊥
Does step (Some held) number (Some after) = (answer : Code) × (number ≡ code_number answer) × step held.inner.node answer after.inner.node

-- the node leaves, or the code is the error
abbrev pub LeavesBy : Node Sha256Hash → Code → Node Sha256Hash → Type 0
LeavesBy old answer new = (left : Result Change NodeError) × (answer ≡ code_of_result left) × LeaveStep old left new

-- the node is back, or the code is the error
abbrev pub RejoinsBy : Node Sha256Hash → Code → Node Sha256Hash → Type 0
RejoinsBy old answer new = (back : Result Change NodeError) × (answer ≡ code_of_result back) × RejoinStep old back new

-- the address of an entry that expired and its new entry are written; or none was due; or the code of the error
abbrev pub TellsExpiry : Result (Option Change) NodeError → ℕ → ℕ → RingpopEntry → Code → Type 0
TellsExpiry (Ok None) ip port told answer = answer ≡ code.Nothing
TellsExpiry (Ok (Some change)) ip port told answer = TellsChange change ip port told answer
TellsExpiry (Err error) ip port told answer = answer ≡ code_of_error error

-- the first entry that is due gets its next status, and is written, or none is due, or the code is the error
abbrev pub ExpiresBy : ℕ → ℕ → ℕ → RingpopEntry → Node Sha256Hash → Code → Node Sha256Hash → Type 0
ExpiresBy moment ip port told old answer new =
    (expired : Result (Option Change) NodeError) × TellsExpiry expired ip port told answer × ExpireStep old moment expired new

-- the owner of a key among the members of a node, by the first eight bytes of SHA-256
abbrev pub owner_by : Node Sha256Hash → List ℕ → Option ℕ
owner_by node key = slice_get (owners_by hash_of node key) 0

-- an address is written, or there is none
abbrev pub TellsAddress : Option ℕ → ℕ → ℕ → Code → Type 0
TellsAddress None ip port answer = answer ≡ code.Nothing
TellsAddress (Some address) ip port answer = (answer ≡ code.Done) × (ip ≡ ip_of address) × (port ≡ port_of address)

-- a count is written
abbrev pub TellsCount : ℕ → ℕ → Code → Type 0
TellsCount count told answer = (answer ≡ code.Done) × (told ≡ count)

-- an empty handle returns that it is empty; a full one returns a code that the lookup allows
abbrev pub Looks : (Node Sha256Hash → Code → Type 0) → Option HeldNode → ℕ → Type 0
Looks look None number = number ≡ code_number code.NoNode
Looks look (Some held) number = (answer : Code) × (number ≡ code_number answer) × look held.inner.node answer
