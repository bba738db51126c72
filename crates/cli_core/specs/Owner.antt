-- The output of `owner`.
use Rattle.std.specs.Prelude.{ℕ, ◌%◌, ◌^◌, Bool, true, false, List, [], ◌∷◌, ◌++◌, sum, take}
use Rattle.std.specs.List.{flat_map}
use Rattle.change_core.specs.declared.changes.Change.{Change}
use Rattle.change_core.specs.Address.{address_text}
use Rattle.hash_ring.specs.Points.{owners, hash_number}
use Rattle.hash_ring.specs.Serving.{servers_of}

-- an address and a newline
abbrev pub owner_line : ℕ → List ℕ
owner_line a = address_text a ++ 10 ∷ []

-- the sum of the bytes modulo 2^64, or the first eight bytes of their SHA-256 as a number
abbrev pub hash_by : Bool → List ℕ → ℕ
hash_by true = λ bytes. sum bytes % 2 ^ 64
hash_by false = hash_number

-- the first owners of the key among the members that serve, a line each
abbrev pub owner_text : (List ℕ → ℕ) → ℕ → ℕ → List ℕ → List Change → List ℕ
owner_text hash replicas count key held = flat_map owner_line (take count (owners hash replicas (servers_of held) key))
