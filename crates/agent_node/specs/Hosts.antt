-- The hosts of an agent.
use Rattle.std.specs.Prelude.{ℕ, Bool, List, ◌&&◌, nat_eq}
use Rattle.std.specs.List.{list_all, list_any}

-- whether an address is one of these
abbrev pub is_among : List ℕ → ℕ → Bool
is_among hosts host = list_any (λ other. nat_eq other host) hosts

-- whether each of the first addresses is one of the others
abbrev pub are_among : List ℕ → List ℕ → Bool
are_among hosts others = list_all (is_among others) hosts

-- whether two lists have the same addresses, in whatever order and however often
abbrev pub are_same : List ℕ → List ℕ → Bool
are_same hosts others = are_among hosts others && are_among others hosts
