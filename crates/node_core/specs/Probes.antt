-- The probes of a node.
use Rattle.std.specs.Prelude.{◌≡◌, ◌≢◌, ◌⊎◌, ℕ, ◌<◌, Option, Some, None, Result, Ok, Err, [], IsSome}
use Rattle.change_core.specs.declared.changes.Change.{Change}
use Rattle.change_core.specs.declared.statuses.Status.{Status}
use Rattle.change_core.specs.declared.statuses.Status.TheVariants.{Alive, Suspect, Faulty, Leave, Tombstone}
use Rattle.change_core.specs.Members.{greatest}
use Rattle.change_core.specs.Numbers.{greatest_number}
use Rattle.detector_core.specs.declared.asked.Outcome.TheVariants as outcome
use Rattle.detector_core.specs.declared.asked.Said.{Said}
use Rattle.detector_core.specs.declared.errors.DetectorError.TheVariants as detector
use Rattle.detector_core.specs.declared.prober.Lost.TheVariants.{Ask}
use Rattle.detector_core.specs.declared.prober.Probe.{Probe}
use Rattle.detector_core.specs.Picks.{IsDrawnLoss, IsDrawnPick, IsPick, WasLost}
use Rattle.detector_core.specs.Probing.{running_target, unasked_target, helper_count, would_say, after_saying}
use Rattle.node_core.specs.declared.errors.NodeError.{NodeError}
use Rattle.node_core.specs.declared.errors.NodeError.TheVariants as error
use Rattle.node_core.specs.declared.events.NodeLost.{NodeLost}
use Rattle.node_core.specs.declared.events.NodeLost.TheVariants as lost
use Rattle.node_core.specs.declared.events.NodeOutcome.{NodeOutcome}
use Rattle.node_core.specs.declared.events.NodeOutcome.TheVariants as answered
use Rattle.node_core.specs.Node.{Node, altered, at_moment, pingable, said_by}

-- a probe starts: a pingable target in turn, of any new order if one is due, and every other pingable member comes nearer
abbrev pub ProbeStep : {H : Type 0} → Node H → Result (Option Probe) NodeError → Node H → Type 0
ProbeStep old (Ok (Some pick)) new =
    (old.probing.running ≡ None) × IsPick (pingable old) old.probing pick new.probing × (new ≡ record old { probing = new.probing })
ProbeStep old (Ok None) new = (old.probing.running ≡ None) × (old.probing.last < greatest_number) × (pingable old ≡ []) × (new ≡ old)
ProbeStep old (Err error.Busy) new = IsSome old.probing.running × (new ≡ old)
ProbeStep old (Err error.Spent) new = (old.probing.running ≡ None) × (old.probing.last ≡ greatest_number) × (new ≡ old)
ProbeStep old (Err error.Memory) new = (old.probing.running ≡ None) × (old.probing.last < greatest_number) × (pingable old ≢ []) × (new ≡ old)
ProbeStep old (Err other) new = ⊥

-- the pick of a probe that starts is the one that the node's generator draws
abbrev pub ProbeDraw : {H : Type 0} → Node H → Result (Option Probe) NodeError → Node H → Type 0
ProbeDraw old (Ok (Some pick)) new = IsDrawnPick (pingable old) old.probing pick new.probing
ProbeDraw old (Ok None) new = Unit {0}
ProbeDraw old (Err refused) new = Unit {0}

-- the node with no probe running
abbrev pub ended : {H : Type 0} → Node H → Node H
ended node = record node { probing = record node.probing { running = None } }

-- the suspicion of an entry that is held as alive, at its incarnation
abbrev pub suspicion_of : Change → Status → Option Change
suspicion_of c Alive = Some (record c { status = Suspect })
suspicion_of c Suspect = None
suspicion_of c Faulty = None
suspicion_of c Leave = None
suspicion_of c Tombstone = None

-- the same of an entry that may be there, by its own status
abbrev pub suspicion_in : Option Change → Option Change
suspicion_in None = None
suspicion_in (Some c) = suspicion_of c c.status

-- the same of the node's entry of the target
abbrev pub suspicion : {H : Type 0} → Node H → ℕ → Option Change
suspicion node target = suspicion_in (greatest node.members target)

-- the node with a change that it says itself, if there is one
abbrev pub put_in : {H : Type 0} → Node H → Option Change → Node H
put_in node None = node
put_in node (Some c) = altered node (said_by node c)

-- the probe runs, and its target was reached
abbrev pub AckedStep : {H : Type 0} → Node H → ℕ → Result (Unit {0}) NodeError → Node H → Type 0
AckedStep old number (Ok done) new = IsSome (running_target old.probing number) × (new ≡ ended old)
AckedStep old number (Err error.StaleProbe) new = (running_target old.probing number ≡ None) × (new ≡ old)
AckedStep old number (Err other) new = ⊥

-- the target is suspect from now on, and its probe has ended
pub record Suspects {H : Type 0} (old : Node H) (target : ℕ) (moment : ℕ) (change : Option Change) (new : Node H) : Type 0 where
  pub change_is : change ≡ suspicion old target
  pub new_is : new ≡ ended (put_in (at_moment old moment) change)

-- the probe runs and has asked no helper yet: helpers are asked, any different ones, or if there is none its target is suspect
abbrev pub LostStep : {H : Type 0} → Node H → ℕ → ℕ → Result NodeLost NodeError → Node H → Type 0
LostStep old number moment (Ok (lost.Ask helpers)) new =
    (target : ℕ) × (unasked_target old.probing number ≡ Some target) × WasLost (pingable old) target old.probing (Ask helpers) new.probing
    × (new ≡ record (at_moment old moment) { probing = new.probing })
LostStep old number moment (Ok (lost.Suspect change)) new =
    (target : ℕ) × (unasked_target old.probing number ≡ Some target) × (helper_count old.probing (pingable old) target ≡ 0) × Suspects old target moment change new
LostStep old number moment (Err error.StaleProbe) new = (unasked_target old.probing number ≡ None) × (new ≡ old)
LostStep old number moment (Err error.Memory) new =
    (target : ℕ) × (unasked_target old.probing number ≡ Some target) × ((0 < helper_count old.probing (pingable old) target) ⊎ IsSome (suspicion old target)) × (new ≡ old)
LostStep old number moment (Err other) new = ⊥

-- the helpers that are asked about a lost target are those that the node's generator draws
abbrev pub LostDraw : {H : Type 0} → Node H → ℕ → Result NodeLost NodeError → Node H → Type 0
LostDraw old number (Ok (lost.Ask helpers)) new =
    (target : ℕ) → unasked_target old.probing number ≡ Some target → IsDrawnLoss (pingable old) target old.probing (Ask helpers) new.probing
LostDraw old number (Ok (lost.Suspect change)) new = Unit {0}
LostDraw old number (Err refused) new = Unit {0}

-- the result of a helper's report; after the verdict that the target is suspect it is
abbrev pub HelperStep : {H : Type 0} → Node H → ℕ → ℕ → Said → ℕ → Result NodeOutcome NodeError → Node H → Type 0
HelperStep old number helper said moment (Ok answered.Waiting) new =
    (would_say old.probing number helper said ≡ Ok outcome.Waiting)
    × (new ≡ record (at_moment old moment) { probing = after_saying old.probing helper said outcome.Waiting })
HelperStep old number helper said moment (Ok answered.Reached) new =
    (would_say old.probing number helper said ≡ Ok outcome.Reached) × (new ≡ ended (at_moment old moment))
HelperStep old number helper said moment (Ok (answered.Suspect change)) new =
    (target : ℕ) × (would_say old.probing number helper said ≡ Ok outcome.Suspect) × (running_target old.probing number ≡ Some target)
    × Suspects old target moment change new
HelperStep old number helper said moment (Ok answered.Inconclusive) new =
    (would_say old.probing number helper said ≡ Ok outcome.Inconclusive) × (new ≡ ended (at_moment old moment))
HelperStep old number helper said moment (Err error.StaleProbe) new = (would_say old.probing number helper said ≡ Err detector.StaleProbe) × (new ≡ old)
HelperStep old number helper said moment (Err error.NotAsked) new = (would_say old.probing number helper said ≡ Err detector.NotAsked) × (new ≡ old)
HelperStep old number helper said moment (Err error.Memory) new =
    (target : ℕ) × (would_say old.probing number helper said ≡ Ok outcome.Suspect) × (running_target old.probing number ≡ Some target)
    × IsSome (suspicion old target) × (new ≡ old)
HelperStep old number helper said moment (Err other) new = ⊥
