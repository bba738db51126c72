-- Byte strings, one after another, as one text.
use Rattle.std.specs.Prelude.{ℕ, ◌==◌, Bool, false, cond, List, [], ◌∷◌, ◌++◌, length}
use Rattle.std.specs.Int.{to_be_bytes, w64}
use Rattle.base64.specs.Engines.{standard}
use Rattle.base64.specs.GeneralPurpose.{encode_of}

-- a part: its length in eight bytes, the greatest first, and its bytes
abbrev pub part_of : List ℕ → List ℕ
part_of part = to_be_bytes w64 (length part) ++ part

-- parts, one after the other
abbrev pub joined : List (List ℕ) → List ℕ
joined [] = []
joined (part ∷ parts) = part_of part ++ joined parts

-- the text that represents bytes: the byte 3, and the bytes in base64 (RFC 4648, section 4)
abbrev pub packed_bytes : List ℕ → List ℕ
packed_bytes bytes = 3 ∷ encode_of standard bytes

-- the text that represents parts
abbrev pub text_of_parts : List (List ℕ) → List ℕ
text_of_parts parts = packed_bytes (joined parts)

-- whether bytes start as the text of parts does
abbrev pub is_reserved : List ℕ → Bool
is_reserved [] = false
is_reserved (x ∷ xs) = x == 3

-- the text of a request that is a body alone: the body or, if it starts as the text of parts does, the text of that one part
abbrev pub text_of_body : List ℕ → List ℕ
text_of_body body = cond (is_reserved body) (text_of_parts (body ∷ [])) body
