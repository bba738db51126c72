-- The greatest number of keys of a request.
use Rattle.std.specs.Prelude.{ℕ}

-- the greatest number of keys of a request
abbrev pub max_keys : ℕ
max_keys = 256
