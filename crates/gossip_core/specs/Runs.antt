-- The calls of a `Gossip` between two puts for an address: issues, adjustments, and puts about others.
use Rattle.std.specs.Prelude.{ℕ, ◌+◌, ◌==◌, ◌≢◌, max, List, [], ◌∷◌, count_by, ⊤}
use Rattle.change_core.specs.declared.changes.Sourced.{Sourced}
use Rattle.gossip_core.specs.Pending.{issued}
use Rattle.gossip_core.specs.Dissemination.{Dissemination, with_news, adjusted, after_issue}

-- a call that changes a `Gossip`
pub data Event : Type 0 where
  Puts : (s : Sourced) → Event
  Adjusts : (n : ℕ) → Event
  Issues : (target k : ℕ) → Event

-- the pending list after the call
abbrev pub after : Dissemination → Event → Dissemination
after g (Puts s) = with_news g s
after g (Adjusts n) = adjusted g n
after g (Issues target k) = after_issue g target k

-- how many of the changes that the call issues are about the address
abbrev pub issues_about : ℕ → Dissemination → Event → ℕ
issues_about a g (Puts s) = 0
issues_about a g (Adjusts n) = 0
issues_about a g (Issues target k) = count_by (λ s. s.change.address == a) (issued target k g.pending)

-- how often a change about the address is issued in a run
abbrev pub times_issued : ℕ → Dissemination → List Event → ℕ
times_issued a g [] = 0
times_issued a g (e ∷ es) = issues_about a g e + times_issued a (after g e) es

-- the greatest limit in a run, from its start to its end
abbrev pub greatest_limit : Dissemination → List Event → ℕ
greatest_limit g [] = g.limit
greatest_limit g (e ∷ es) = max g.limit (greatest_limit (after g e) es)

-- the call puts nothing about the address
abbrev pub IsElsewhere : ℕ → Event → Type 0
IsElsewhere a (Puts s) = s.change.address ≢ a
IsElsewhere a (Adjusts n) = ⊤
IsElsewhere a (Issues target k) = ⊤
