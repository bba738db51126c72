-- Timers: when a suspect entry becomes faulty (SWIM, section 4.2), and a faulty one a tombstone.
use Rattle.std.specs.Prelude.{◌≡◌, ℕ, ◌==◌, ◌<◌, ◌≤◌, ◌↔◌, List, ◌∷◌, ◌++◌, not, filter, find, nat_lt, nat_le, map, length, take, drop, slice_index_or, AllPairs, Contains, All, Option, None, IfSome}
use Rattle.std.specs.Option.{option_map}
use Rattle.detector_core.specs.declared.timers.Timer.{Timer}
use Rattle.detector_core.specs.declared.timers.Due.{Due}

-- the model of `Timers`: the timers, and for how many more there is room
pub record TimerList : Type 0 where
  pub timers : List Timer
  pub room : ℕ

-- each address has at most one, and they rise by address
abbrev pub IsAscending : List Timer → Type 0
IsAscending ts = AllPairs (λ t u. t.address < u.address) ts

-- a timer of the address runs
abbrev pub HasTimer : List Timer → ℕ → Type 0
HasTimer ts a = Contains (map (λ t. t.address) ts) a

-- with this timer for its address, among those of lesser and greater addresses
abbrev pub with_timer : List Timer → Timer → List Timer
with_timer ts t = filter (λ u. nat_lt u.address t.address) ts ++ t ∷ filter (λ u. nat_lt t.address u.address) ts

-- without the timer of the address
abbrev pub without_timer : List Timer → ℕ → List Timer
without_timer ts a = filter (λ t. not (t.address == a)) ts

-- the change that is due of a timer that has run out
abbrev pub due_of : Timer → Due
due_of t = record { address = t.address; incarnation = t.incarnation; next = t.next }

-- the first timer, by address, at or past its deadline
abbrev pub due_at : List Timer → ℕ → Option Due
due_at ts now = option_map due_of (find (λ t. nat_le t.deadline now) ts)

-- d is of a timer at or past its deadline, and none of a lesser address is
pub record IsLeastDue (ts : List Timer) (now : ℕ) (d : Due) : Type 0 where
  pub timer : Timer
  pub runs : Contains ts timer
  pub same : d ≡ due_of timer
  pub past : timer.deadline ≤ now
  pub least : All (λ t. t.deadline ≤ now → d.address ≤ t.address) ts

-- the due timer is of the least address among those at or past their deadline, and none is due if and only if there is none of these
pub record GivesLeastDue (ts : List Timer) (now : ℕ) : Type 0 where
  pub some : IfSome (due_at ts now) (IsLeastDue ts now)
  pub none : (due_at ts now ≡ None) ↔ All (λ t. now < t.deadline) ts

-- the timers before the place are of lesser addresses, and the others are not
pub record IsPlace (ts : List Timer) (a i : ℕ) : Type 0 where
  pub within : i ≤ length ts
  pub prefix : All (λ t. t.address < a) (take i ts)
  pub back : All (λ t. a ≤ t.address) (drop i ts)

-- the timer at the place is of the address
pub record IsTimerAt (ts : List Timer) (i a : ℕ) : Type 0 where
  pub within : i < length ts
  pub here : (d : Timer) → (slice_index_or ts i d).address ≡ a
