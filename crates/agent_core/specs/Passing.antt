-- An HTTP request or answer that is passed on whole, as the one text of a Forward or a Reply, and what of it is passed on.
use Rattle.std.specs.Prelude.{◌<◌, ◌^◌, ◌||◌, ◌&&◌, ◌+◌, ◌*◌, ◌-◌, Bool, ℕ, cond, List, [], ◌∷◌, ◌++◌, length, Option, Some, None, bytes_eq, codes, decimal}
use Rattle.std.specs.List.{All}
use Rattle.base64.specs.GeneralPurpose.{IsBytes}
use Rattle.agent_core.specs.Packs.{is_within}
use Rattle.change_core.specs.Address.{address_text}
use Rattle.agent_core.specs.Parts.{joined, packed_bytes, text_of_parts}
use Rattle.agent_core.specs.declared.passing.Field.{Field}
use Rattle.agent_core.specs.declared.passing.Outgoing.{Outgoing}
use Rattle.agent_core.specs.declared.passing.Outgoing.TheVariants.{Body, Whole}

-- a field: its name and its value
abbrev pub named : Field → List ℕ × List ℕ
named field = (field.name.now, field.value.now)

-- the names and the values of fields, one after the other
abbrev pub flat : List (List ℕ × List ℕ) → List (List ℕ)
flat [] = []
flat (field ∷ fields) = field.0 ∷ field.1 ∷ flat fields

-- the parts of a request: its method, its target, its body, and its fields
abbrev pub request_parts : List ℕ → List ℕ → List ℕ → List (List ℕ × List ℕ) → List (List ℕ)
request_parts method target body fields = method ∷ target ∷ body ∷ flat fields

-- the parts of an answer: its status in decimal digits, its body, and its fields
abbrev pub answer_parts : ℕ → List ℕ → List (List ℕ × List ℕ) → List (List ℕ)
answer_parts status body fields = decimal status ∷ body ∷ flat fields

-- what a program can hold: bytes, fewer than 2^64 in each part
abbrev pub AreParts : List (List ℕ) → Type 0
AreParts parts = All (λ p. length p < 2 ^ 64) parts × IsBytes (joined parts)

-- the text of a request
abbrev pub request_text : List ℕ → List ℕ → List ℕ → List (List ℕ × List ℕ) → List ℕ
request_text method target body fields = text_of_parts (request_parts method target body fields)

-- the field that names the node that would own a key next, if there is one
abbrev pub next_fields : Option ℕ → List (List ℕ × List ℕ)
next_fields None = []
next_fields (Some a) = (codes "x-ringpop-next", address_text a) ∷ []

-- the text by which a request goes to its key's owner: that of a body alone, or that of its parts and of the field that names the next owner
abbrev pub sent_text : Option ℕ → Outgoing → List ℕ
sent_text next (Body text) = text
sent_text next (Whole bytes) = packed_bytes (bytes.items ++ joined (flat (next_fields next)))

-- the text of an answer
abbrev pub answer_text : ℕ → List ℕ → List (List ℕ × List ℕ) → List ℕ
answer_text status body fields = text_of_parts (answer_parts status body fields)

-- the status that three digits write, if it is from 200 to 599
abbrev pub status_in : List ℕ → Option ℕ
status_in (hundreds ∷ tens ∷ ones ∷ []) =
    cond (is_within 50 53 hundreds && (is_within 48 57 tens && is_within 48 57 ones)) (Some (100 * (hundreds - 48) + 10 * (tens - 48) + (ones - 48))) None
status_in other = None

-- whether a name is that of a field for one connection alone (RFC 9110, section 7.6.1), or of one that an agent makes itself
abbrev pub is_of_connection : List ℕ → Bool
is_of_connection name =
    bytes_eq name (codes "connection") || (bytes_eq name (codes "proxy-connection") || (bytes_eq name (codes "keep-alive")
    || (bytes_eq name (codes "te") || (bytes_eq name (codes "trailer") || (bytes_eq name (codes "transfer-encoding")
    || (bytes_eq name (codes "upgrade") || (bytes_eq name (codes "expect") || (bytes_eq name (codes "x-ringpop-key")
    || (bytes_eq name (codes "x-ringpop-next") || (bytes_eq name (codes "x-ringpop-error") || (bytes_eq name (codes "x-ringpop-owner")
    || bytes_eq name (codes "x-ringpop-wait"))))))))))))

-- whether a request by a method may be performed twice (RFC 9110, section 9.2.2)
abbrev pub is_repeatable : List ℕ → Bool
is_repeatable method =
    bytes_eq method (codes "GET") || (bytes_eq method (codes "HEAD") || (bytes_eq method (codes "PUT")
    || (bytes_eq method (codes "DELETE") || bytes_eq method (codes "OPTIONS"))))
