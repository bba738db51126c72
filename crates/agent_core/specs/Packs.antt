-- An application's answer as one text, and back.
use Rattle.std.specs.Prelude.{◌&&◌, ◌||◌, ◌==◌, ◌+◌, ◌*◌, ◌-◌, not, Bool, false, cond, ℕ, nat_le, List, [], ◌∷◌, ◌++◌, Option, Some, None, drop, decimal}

-- whether a body starts with a mark: 1 for text, 2 for JSON, 3 for parts
abbrev pub is_marked : List ℕ → Bool
is_marked [] = false
is_marked (x ∷ xs) = ((x == 1) || (x == 2)) || (x == 3)

-- the mark, the status, a space and the body
abbrev pub marked : ℕ → Bool → List ℕ → List ℕ
marked status is_json body = cond is_json 2 1 ∷ decimal status ++ 32 ∷ body

-- the text that represents an answer: the body alone if the status is 200, the body is not JSON and starts with no mark
abbrev pub packed : ℕ → Bool → List ℕ → List ℕ
packed status is_json body = cond ((status == 200) && (not is_json && not (is_marked body))) body (marked status is_json body)

-- whether a byte lies in a range, its ends included
abbrev pub is_within : ℕ → ℕ → ℕ → Bool
is_within least greatest x = nat_le least x && nat_le x greatest

-- the status and whether the body is JSON, if a text starts with a mark, a status from 200 to 599 and a space
abbrev pub header_of : List ℕ → Option (ℕ × Bool)
header_of (mark ∷ hundreds ∷ tens ∷ ones ∷ space ∷ body) =
    cond (is_within 1 2 mark && (is_within 50 53 hundreds && (is_within 48 57 tens && (is_within 48 57 ones && (space == 32)))))
    (Some (100 * (hundreds - 48) + 10 * (tens - 48) + (ones - 48), mark == 2)) None
header_of other = None

-- an answer that a text represents
pub record Unpacked : Type 0 where
  pub status : ℕ
  pub is_json : Bool
  pub body : List ℕ

-- the answer of a text with such a start: the rest is the body; without one the whole text is the body, and the status is 200
abbrev pub behind : List ℕ → Option (ℕ × Bool) → Unpacked
behind text None = record { status = 200; is_json = false; body = text }
behind text (Some header) = record { status = header.0; is_json = header.1; body = drop 5 text }

-- the answer that a text represents; every text represents one
abbrev pub unpacked : List ℕ → Unpacked
unpacked text = behind text (header_of text)
