-- The tokens of a line of the log as JSON.
use Rattle.std.specs.Prelude.{◌≢◌, ℕ, List, [], ◌∷◌, ◌++◌, Option, Some, None, codes}
use Rattle.std.specs.List.{AllByRecursion}
use Rattle.json.specs.Token.{Token, begin_object, end_object, key, string}
use Rattle.change_core.specs.Address.{address_text}

-- a member of an object, a text
abbrev pub member : List ℕ → List ℕ → List Token
member name text = key name ∷ string text ∷ []

-- the time, if it is known
abbrev pub time_member : Option (List ℕ) → List Token
time_member None = []
time_member (Some time) = member (codes "time") time

-- the object of a line: the time, if it is known, the node's address, the level, the part of the program, and the message
abbrev pub line_tokens : Option (List ℕ) → ℕ → List ℕ → List ℕ → List ℕ → List Token
line_tokens time own level target message =
    begin_object ∷ (time_member time ++ (member (codes "address") (address_text own) ++ (member (codes "level") level
    ++ (member (codes "target") target ++ (member (codes "message") message ++ end_object ∷ [])))))

-- the text has no newline
abbrev pub IsOneLine : List ℕ → Type 0
IsOneLine = AllByRecursion (λ b. b ≢ 10)
