-- The limits of incarnations, moments, weights and members.
use Rattle.std.specs.Prelude.{ℕ, ◌≤◌}

-- the greatest incarnation and the greatest moment, 2^53 - 1
abbrev pub greatest_number : ℕ
greatest_number = 9007199254740991

-- the greatest number of members of a node, and so of changes in a message
abbrev pub most_members : ℕ
most_members = 4096

-- the greatest weight
abbrev pub greatest_weight : ℕ
greatest_weight = 8

-- from 1 to the greatest weight
abbrev pub IsWeight : ℕ → Type 0
IsWeight w = (1 ≤ w) × (w ≤ greatest_weight)
