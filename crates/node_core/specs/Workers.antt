-- The number of threads that serve a node.
use Rattle.std.specs.Prelude.{ℕ, ◌<◌, ◌≤◌}

-- the greatest number of threads that serve a node of a cluster
abbrev pub most_workers : ℕ
most_workers = 16

-- the number of workers that a node may have
abbrev pub IsCrew : ℕ → Type 0
IsCrew workers = (0 < workers) × (workers ≤ most_workers)
