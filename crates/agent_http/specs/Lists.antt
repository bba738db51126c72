-- Lists of names and of media ranges, as the values of fields are (RFC 9110, section 5.6.1).
use Rattle.std.specs.Prelude.{◌≡◌, ◌≢◌, ◌<◌, ◌==◌, ℕ, map, List, Option, Some, None, length, take, codes}
use Rattle.std.specs.Char.{to_ascii_lowercase}
use Rattle.std.specs.List.{AllWithin, HoldsAt, position, slice_split}
use Rattle.std.specs.Str.{IsTrimAscii}

-- the elements of a list: the parts between its commas
abbrev pub elements : List ℕ → List (List ℕ)
elements list = slice_split (λ byte. byte == 44) list

-- an element is this name in any case, perhaps with white space around it
abbrev pub IsName : List ℕ → List ℕ → Type 0
IsName name element = (one : List ℕ) × IsTrimAscii element one × (map to_ascii_lowercase one ≡ map to_ascii_lowercase name)

-- an element without the white space around it is another name
abbrev pub IsOther : List ℕ → List ℕ → Type 0
IsOther name element = (one : List ℕ) × IsTrimAscii element one × (map to_ascii_lowercase one ≢ map to_ascii_lowercase name)

-- an element of a list is this name
abbrev pub HasName : List ℕ → List ℕ → Type 0
HasName list name = (k : ℕ) × (k < length (elements list)) × HoldsAt (IsName name) (elements list) k

-- each element of a list is another name
abbrev pub LacksName : List ℕ → List ℕ → Type 0
LacksName list name = AllWithin (IsOther name) (elements list) 0 (length (elements list))

-- a text up to a place in it, or all of it
abbrev pub up_to : Option ℕ → List ℕ → List ℕ
up_to None text = text
up_to (Some end) text = take end text

-- the media type of a range: what stands before its first semicolon
abbrev pub media_type : List ℕ → List ℕ
media_type range = up_to (position (λ byte. byte == 59) range) range

-- a media range is JSON
abbrev pub IsJson : List ℕ → Type 0
IsJson range = IsName (codes "application/json") (media_type range)

-- a media range is of another type
abbrev pub IsOtherType : List ℕ → Type 0
IsOtherType range = IsOther (codes "application/json") (media_type range)

-- a range of a list is JSON
abbrev pub NamesJson : List ℕ → Type 0
NamesJson list = (k : ℕ) × (k < length (elements list)) × HoldsAt IsJson (elements list) k

-- no range of a list is JSON
abbrev pub NamesNoJson : List ℕ → Type 0
NamesNoJson list = AllWithin IsOtherType (elements list) 0 (length (elements list))
