-- The bounds of a server's arguments.
use Rattle.std.specs.Prelude.{ℕ, ◌≤◌}
use Rattle.change_core.specs.Numbers.{most_members}

-- the greatest number of connections that a server serves
abbrev pub most_requests : ℕ
most_requests = 1000000

-- from 1 to that number
abbrev pub IsRequests : ℕ → Type 0
IsRequests n = (1 ≤ n) × (n ≤ most_requests)

-- how many changes a message may carry at most: from 1 to as many as there are members
abbrev pub IsPerMessage : ℕ → Type 0
IsPerMessage n = (1 ≤ n) × (n ≤ most_members)

-- how often a change may be passed on for each decimal digit of the number of serving members: from 1 to 1,000
abbrev pub IsPiggyback : ℕ → Type 0
IsPiggyback n = (1 ≤ n) × (n ≤ 1000)
