-- The name of a cluster, and the lines that have it.
use Rattle.std.specs.Prelude.{◌≡◌, ◌||◌, ◌==◌, ◌≤◌, ◌++◌, ◌∷◌, ℕ, Bool, true, List, codes, drop, length}
use Rattle.std.specs.Char.{is_ascii_alphanumeric}
use Rattle.std.specs.List.{All}

-- whether a byte may stand in a name: a letter or a digit of ASCII, a full stop, a low line or a hyphen
abbrev pub is_name_byte : ℕ → Bool
is_name_byte byte = is_ascii_alphanumeric byte || ((byte == 46) || ((byte == 95) || (byte == 45)))

-- the bytes are a name: 1 to 64 of those
pub record IsName (bytes : List ℕ) : Type 0 where
  pub some : 1 ≤ length bytes
  pub few : length bytes ≤ 64
  pub each : All (λ byte. is_name_byte byte ≡ true) bytes

-- the beginning of a line that has a name
abbrev pub opening : List ℕ → List ℕ
opening name = (codes "{\"cluster\":\"" ++ name) ++ codes "\","

-- the line begins with a brace, as that of each message does
abbrev pub IsPlain : List ℕ → Type 0
IsPlain line = (rest : List ℕ) × (line ≡ 123 ∷ rest)

-- a line that has a name: the beginning with the name in place of the line's first byte
abbrev pub named : List ℕ → List ℕ → List ℕ
named name line = opening name ++ drop 1 line
