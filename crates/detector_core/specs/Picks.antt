-- The effect of a pick and of a loss on a prober, and what follows for a run of picks.
use Rattle.std.specs.Prelude.{◌≡◌, ℕ, ◌+◌, ◌-◌, ◌*◌, List, [], ◌∷◌, Option, ◌<◌, ◌≤◌, Some, None, Contains, length, map}
use Rattle.std.specs.Option.{option_map}
use Rattle.change_core.specs.Numbers.{greatest_number}
use Rattle.detector_core.specs.declared.prober.Probe.{Probe}
use Rattle.detector_core.specs.declared.prober.Running.{Running}
use Rattle.detector_core.specs.declared.prober.Lost.{Lost}
use Rattle.detector_core.specs.declared.prober.Lost.TheVariants.{Ask, NoHelper}
use Rattle.detector_core.specs.declared.asked.Said.{Said}
use Rattle.detector_core.specs.declared.asked.Outcome.{Outcome}
use Rattle.detector_core.specs.Helpers.{first_waiting, others, unanswered, IsSample}
use Rattle.detector_core.specs.Choices.{sample}
use Rattle.detector_core.specs.Order.{AllDifferent, bound, IsTurn, AllNearer, drawn_turn}
use Rattle.detector_core.specs.Probing.{ProbeState, choices, helper_count, would_say, after_saying, running_target}

-- the probe has the next number, its target is a pingable member in turn, and every other pingable member comes nearer. A new order is any,
-- and so are the choices that are left
pub record IsPick (pingable : List ℕ) (old : ProbeState) (p : Probe) (new : ProbeState) : Type 0 where
  pub number : p.number ≡ old.last + 1
  pub within : p.number ≤ greatest_number
  pub target : Contains pingable p.target
  pub turn : IsTurn pingable old.rest p.target new.rest
  pub different : AllDifferent new.rest
  pub nearer : AllNearer pingable old.rest p.target new.rest
  pub left : new ≡ record { last = old.last + 1; helpers = old.helpers; rest = new.rest; generator = new.generator; running = Some (record { target = p.target; asked = [] }) }

-- the pick is the one that the choices give, with the choices left
abbrev pub IsDrawnPick : List ℕ → ProbeState → Probe → ProbeState → Type 0
IsDrawnPick pingable old p new = drawn_turn pingable old.rest (choices old) ≡ (Some (p.target, new.rest), choices new)

-- the running probe, with the helper of least address that is waited for
abbrev pub running_of : ProbeState → Option Running
running_of s = option_map (λ a. record { number = s.last; target = a.target; waiting = first_waiting a.asked }) s.running

-- helpers are asked, any different ones of the others, as many as are asked or all there are, and none of them has answered
pub record WasAsked (pingable : List ℕ) (target : ℕ) (old : ProbeState) (helpers : List ℕ) (new : ProbeState) : Type 0 where
  pub somebody : 0 < helper_count old pingable target
  pub chosen : IsSample (others pingable target) (helper_count old pingable target) helpers
  pub left : new ≡ record old { generator = new.generator; running = Some (record { target = target; asked = unanswered helpers }) }

-- without a helper to ask the probe ends, and else helpers are asked
abbrev pub WasLost : List ℕ → ℕ → ProbeState → Lost → ProbeState → Type 0
WasLost pingable target old NoHelper new = (helper_count old pingable target ≡ 0) × (new ≡ record old { running = None })
WasLost pingable target old (Ask helpers) new = WasAsked pingable target old helpers new

-- the helpers that are asked are the sample that the choices give, with the choices left
abbrev pub IsDrawnLoss : List ℕ → ℕ → ProbeState → Lost → ProbeState → Type 0
IsDrawnLoss pingable target old NoHelper new = Unit {0}
IsDrawnLoss pingable target old (Ask helpers) new = sample (others pingable target) old.helpers (choices old) ≡ (helpers, choices new)

-- one pick of a run: the prober before it, the probe, and the prober after it
pub record Picked : Type 0 where
  pub before : ProbeState
  pub probe : Probe
  pub after : ProbeState

-- the targets of some picks
abbrev pub targets_of : List Picked → List ℕ
targets_of picks = map (λ p. p.probe.target) picks

-- picks one after another from the same members: the rest of the order after one is the rest before the next
abbrev pub ArePicks : List ℕ → List ℕ → List Picked → Type 0
ArePicks pingable rest [] = Unit {0}
ArePicks pingable rest (p ∷ picks) = (p.before.rest ≡ rest) × IsPick pingable p.before p.probe p.after × ArePicks pingable p.after.rest picks

-- 2n - 1 picks from n members that stay hold each of them
abbrev pub HoldsEach : Type 0
HoldsEach =
    (pingable rest : List ℕ) (picks : List Picked)
    → AllDifferent rest → ArePicks pingable rest picks → 2 * length pingable - 1 ≤ length picks
    → (a : ℕ) → Contains pingable a → Contains (targets_of picks) a

-- with n members a bound is at most 2n - 2
abbrev pub BoundIsLow : Type 0
BoundIsLow = (pingable rest : List ℕ) (a : ℕ) → AllDifferent rest → Contains pingable a → bound pingable rest a ≤ 2 * length pingable - 2

-- two probers are the same but for their generators, and the random choices to come are the same
pub record Agree (s t : ProbeState) : Type 0 where
  pub last : s.last ≡ t.last
  pub helpers : s.helpers ≡ t.helpers
  pub rest : s.rest ≡ t.rest
  pub coming : choices s ≡ choices t
  pub running : s.running ≡ t.running

-- two probers that agree draw the same pick of the same members, and agree afterwards
abbrev pub PicksAreOne : Type 0
PicksAreOne =
    (pingable : List ℕ) (s t s' t' : ProbeState) (p q : Probe)
    → Agree s t → IsPick pingable s p s' → IsDrawnPick pingable s p s' → IsPick pingable t q t' → IsDrawnPick pingable t q t' → (p ≡ q) × Agree s' t'

-- and they draw the same helpers to ask about a lost target
abbrev pub LossesAreOne : Type 0
LossesAreOne =
    (pingable : List ℕ) (target : ℕ) (s t s' t' : ProbeState) (l m : Lost)
    → Agree s t → WasLost pingable target s l s' → IsDrawnLoss pingable target s l s' → WasLost pingable target t m t' → IsDrawnLoss pingable target t m t'
    → (l ≡ m) × Agree s' t'

-- two probers that agree return the same for a helper's report, and agree once both have recorded it
abbrev pub WordsAreOne : Type 0
WordsAreOne =
    (number helper : ℕ) (said : Said) (s t : ProbeState)
    → Agree s t → (would_say s number helper said ≡ would_say t number helper said) × ((o : Outcome) → Agree (after_saying s helper said o) (after_saying t helper said o))

-- two probers that agree have the probe of a number alike, and agree once it has ended
abbrev pub AcksAreOne : Type 0
AcksAreOne =
    (number : ℕ) (s t : ProbeState)
    → Agree s t → (running_target s number ≡ running_target t number) × Agree (record s { running = None }) (record t { running = None })
