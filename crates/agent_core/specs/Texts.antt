-- The JSON texts of members and owners, and the line of a digest.
use Rattle.std.specs.Prelude.{ℕ, ◌==◌, Bool, false, cond, List, [], ◌∷◌, ◌++◌, map, codes, decimal, length, Option, Some, None}
use Rattle.std.specs.List.{filter, join_with_byte}
use Rattle.change_core.specs.declared.changes.Change.{Change}
use Rattle.change_core.specs.Address.{address_text}
use Rattle.change_core.specs.Digest.{digest_digits}
use Rattle.change_core.specs.Status.{is_serving, status_word}
use Rattle.change_core.specs.declared.statuses.Status.TheVariants.{Alive}

-- an address between quotes
abbrev pub quoted : ℕ → List ℕ
quoted a = 34 ∷ (address_text a ++ 34 ∷ [])

-- addresses between quotes, with commas between them
abbrev pub quoted_list : List ℕ → List ℕ
quoted_list addresses = join_with_byte 44 (map quoted addresses)

-- the owners in their order, and a newline
abbrev pub owners_text : List ℕ → List ℕ
owners_text owners = codes "{\"owners\":[" ++ (quoted_list owners ++ (codes "]}" ++ 10 ∷ []))

-- whether the first of these owners is this one
abbrev pub is_owner : Option ℕ → List ℕ → Bool
is_owner None owners = false
is_owner (Some a) [] = false
is_owner (Some a) (owner ∷ owners) = owner == a

-- the owners of one key of many, or `null` if the first of them is the one that is hidden
abbrev pub shown_owners : Option ℕ → List ℕ → List ℕ
shown_owners hidden owners = cond (is_owner hidden owners) (codes "null") (91 ∷ (quoted_list owners ++ 93 ∷ []))

-- the texts of the owners of keys, one for each in their order, and a newline
abbrev pub all_owners_text : List (List ℕ) → List ℕ
all_owners_text shown = codes "{\"owners\":[" ++ (join_with_byte 44 shown ++ (codes "]}" ++ 10 ∷ []))

-- a member with its address, status, incarnation and weight
abbrev pub member_text : Change → List ℕ
member_text c =
    codes "{\"address\":\"" ++ (address_text c.address ++ (codes "\",\"status\":\"" ++ (status_word c.status
    ++ (codes "\",\"incarnation\":" ++ (decimal c.incarnation ++ (codes ",\"weight\":" ++ (decimal c.weight ++ codes "}")))))))

-- the members in their order, with commas between them
abbrev pub members_list : List Change → List ℕ
members_list members = join_with_byte 44 (map member_text members)

-- the text before the members: the node's own address, the digest's digits, the points for a unit of weight, and how many addresses are used of 4,096
abbrev pub members_head : ℕ → List ℕ → ℕ → ℕ → List ℕ
members_head own digits replicas used =
    codes "{\"address\":\"" ++ (address_text own ++ (codes "\",\"digest\":\"" ++ (digits ++ (codes "\",\"replicas\":" ++ (decimal replicas ++ (codes ",\"addresses_used\":" ++ (decimal used ++ codes ",\"addresses_max\":4096,\"members\":[")))))))

-- that text, the members, and a newline
abbrev pub members_text : ℕ → List ℕ → ℕ → List Change → List ℕ
members_text own digest replicas members = members_head own (digest_digits digest) replicas (length members) ++ (members_list members ++ (codes "]}" ++ 10 ∷ []))

-- a member as it stands on the ring
abbrev pub server_of : Change → Change
server_of c = record { address = c.address; incarnation = 0; status = Alive; weight = c.weight }

-- the members that serve, as they stand on the ring
abbrev pub on_ring : List Change → List Change
on_ring cs = map server_of (filter (λ c. is_serving c.status) cs)

-- a server with its address and weight
abbrev pub server_text : Change → List ℕ
server_text c = codes "{\"address\":\"" ++ (address_text c.address ++ (codes "\",\"weight\":" ++ (decimal c.weight ++ codes "}")))

-- the servers in their order, with commas between them
abbrev pub servers_list : List Change → List ℕ
servers_list cs = join_with_byte 44 (map server_text cs)

-- the text between the digest and the servers: the node's own address, and the points for a unit of weight
abbrev pub ring_middle : ℕ → ℕ → List ℕ
ring_middle own replicas = codes "\",\"own\":\"" ++ (address_text own ++ (codes "\",\"replicas\":" ++ (decimal replicas ++ codes ",\"serving\":[")))

-- the text before the servers
abbrev pub ring_head : List ℕ → ℕ → ℕ → List ℕ
ring_head digits own replicas = codes "{\"ring\":\"" ++ (digits ++ ring_middle own replicas)

-- that text, the servers, and a newline
abbrev pub ring_text : ℕ → List ℕ → ℕ → List Change → List ℕ
ring_text own digest replicas servers = ring_head (digest_digits digest) own replicas ++ (servers_list servers ++ (codes "]}" ++ 10 ∷ []))

-- the digest in hexadecimal digits, and a newline
abbrev pub digest_line : List ℕ → List ℕ
digest_line digest = digest_digits digest ++ 10 ∷ []
