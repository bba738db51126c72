-- The model of a `Gossip`, and the effect of its calls.
use Rattle.std.specs.Prelude.{ℕ, ◌*◌, ◌≤◌, List}
use Rattle.change_core.specs.declared.changes.Sourced.{Sourced}
use Rattle.gossip_core.specs.declared.pending.Pending.{Pending}
use Rattle.gossip_core.specs.Pending.{put_pending, counted, below, limit_for, OnePerAddress, AllBelow}

-- the factor, the limit and the pending list
pub record Dissemination : Type 0 where
  pub factor : ℕ
  pub limit : ℕ
  pub pending : List Pending

-- the greatest piggyback factor
abbrev pub most_factor : ℕ
most_factor = 1000

-- the greatest limit: a number of members has at most 20 digits
abbrev pub most_limit : ℕ
most_limit = 20 * most_factor

-- another change is passed on
abbrev pub with_news : Dissemination → Sourced → Dissemination
with_news g s = record g { pending = put_pending g.pending s }

-- n members serve: the limit is theirs, and what has reached it goes
abbrev pub adjusted : Dissemination → ℕ → Dissemination
adjusted g n = let limit = limit_for g.factor n in record g { limit = limit; pending = below limit g.pending }

-- a message took the first k to the target: the count of each rises by 1, and what has reached the limit goes
abbrev pub after_issue : Dissemination → ℕ → ℕ → Dissemination
after_issue g target k = record g { pending = below g.limit (counted target k g.pending) }

-- factor and limit are within their bounds, and each change has been issued less often than the limit
pub record IsBounded (g : Dissemination) : Type 0 where
  pub factor_within : (1 ≤ g.factor) × (g.factor ≤ most_factor)
  pub limit_within : (1 ≤ g.limit) × (g.limit ≤ most_limit)
  pub unspent : AllBelow g.limit g.pending

-- the invariant: the bounds are kept, and one change is pending for an address
pub record IsWhole (g : Dissemination) : Type 0 where
  pub bounded : IsBounded g
  pub one_each : OnePerAddress g.pending
