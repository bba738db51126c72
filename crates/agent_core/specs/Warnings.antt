-- The conditions of the log's warnings.
use Rattle.std.specs.Prelude.{◌+◌, ◌/◌, ◌==◌, ◌&&◌, ◌||◌, nat_le, nat_lt, min, Bool, not, cond, ℕ}
use Rattle.change_core.specs.Numbers.{most_members}
use Rattle.agent_core.specs.declared.warnings.Refutations.{Refutations}
use Rattle.agent_core.specs.declared.warnings.Notice.{Notice}

-- whether a number of addresses, which was less before, is reason for a warning: 3,000 or more, and another hundred, or the most that there may be
abbrev pub are_many : ℕ → ℕ → Bool
are_many before now = nat_le 3000 now && (nat_lt (before / 100) (now / 100) || ((now == most_members) && nat_lt before now))

-- whether a node that holds this number of addresses lets one join: it knows the address, or holds fewer than 4,000
abbrev pub may_join : ℕ → Bool → Bool
may_join addresses is_known = is_known || nat_lt addresses 4000

-- the window to which the next round belongs: after 50 rounds another begins
abbrev pub window : Refutations → Refutations
window r = cond (nat_le 50 r.rounds) (record { rounds = 0; refuted = 0 }) r

-- a window with one more round, refuted or not
abbrev pub noted_in : Refutations → Bool → Refutations
noted_in r is_refuted = record { rounds = r.rounds + 1; refuted = cond is_refuted (min (r.refuted + 1) 4294967295) r.refuted }

-- the window after a round
abbrev pub noted : Refutations → Bool → Refutations
noted r is_refuted = noted_in (window r) is_refuted

-- whether that round is the sixth that was refuted within its window
abbrev pub is_often : Refutations → Bool → Bool
is_often r is_refuted = is_refuted && ((noted r is_refuted).refuted == 6)

-- whether a state is not the one that the log said last
abbrev pub differs : Notice → Bool → Bool
differs notice is_failing = cond notice.is_failing (not is_failing) is_failing

-- whether the log says a state at a moment: it said the opposite last, and its ten seconds of silence are over
abbrev pub is_news : Notice → Bool → ℕ → Bool
is_news notice is_failing now = differs notice is_failing && nat_le notice.quiet_until now

-- what the log has said then
abbrev pub told : Notice → Bool → ℕ → Notice
told notice is_failing now = cond (is_news notice is_failing now) (record { is_failing = is_failing; quiet_until = now + 10000 }) notice

-- whether a notice says no more than a new one
abbrev pub is_over : Notice → ℕ → Bool
is_over notice now = not notice.is_failing && nat_le notice.quiet_until now
