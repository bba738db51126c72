-- The exports of probes: the effect of each and its code.
use Rattle.std.specs.Prelude.{◌≡◌, ◌==◌, ℕ, cond, Option, Some, None, Result, Ok, Err}
use Rattle.change_core.specs.Address.{ip_of, port_of}
use Rattle.detector_core.specs.declared.asked.Said.{Said}
use Rattle.detector_core.specs.declared.asked.Said.TheVariants as said
use Rattle.detector_core.specs.declared.prober.Probe.{Probe}
use Rattle.detector_core.specs.declared.prober.Running.{Running}
use Rattle.detector_core.specs.Picks.{running_of}
use Rattle.hash_ring.specs.declared.hash.Sha256Hash.{Sha256Hash}
use Rattle.node_core.specs.declared.errors.NodeError.{NodeError}
use Rattle.node_core.specs.declared.events.NodeLost.{NodeLost}
use Rattle.node_core.specs.declared.events.NodeLost.TheVariants as lost
use Rattle.node_core.specs.declared.events.NodeOutcome.{NodeOutcome}
use Rattle.node_core.specs.declared.events.NodeOutcome.TheVariants as word
use Rattle.node_core.specs.Node.{Node}
use Rattle.node_core.specs.Probes.{AckedStep, HelperStep, LostDraw, LostStep, ProbeDraw, ProbeStep}
use Rattle.ringpop_c.specs.declared.codes.Code.{Code}
use Rattle.ringpop_c.specs.declared.codes.Code.TheVariants as code
use Rattle.ringpop_c.specs.Codes.{code_of_error, code_of_result}
use Rattle.ringpop_c.specs.Entries.{EntryPlace, TellsSuspicion}
use Rattle.ringpop_c.specs.Owned.{HeldNode}

-- the number and the target of a probe that started; `Nothing` if no member is pingable; or the code of the error
abbrev pub TellsProbe : Result (Option Probe) NodeError → ℕ → ℕ → ℕ → Code → Type 0
TellsProbe (Ok None) number ip port answer = answer ≡ code.Nothing
TellsProbe (Ok (Some pick)) number ip port answer = (answer ≡ code.Done) × (number ≡ pick.number) × (ip ≡ ip_of pick.target) × (port ≡ port_of pick.target)
TellsProbe (Err error) number ip port answer = answer ≡ code_of_error error

-- a probe of the member that the node's generator draws starts, or the code is the error
abbrev pub ProbesBy : ℕ → ℕ → ℕ → Node Sha256Hash → Code → Node Sha256Hash → Type 0
ProbesBy number ip port old answer new =
    (begun : Result (Option Probe) NodeError) × TellsProbe begun number ip port answer × ProbeStep old begun new × ProbeDraw old begun new

-- the probe ends, its target reached, or the code is the error
abbrev pub AcksBy : ℕ → Node Sha256Hash → Code → Node Sha256Hash → Type 0
AcksBy number old answer new = (acked : Result (Unit {0}) NodeError) × (answer ≡ code_of_result acked) × AckedStep old number acked new

-- the output for a probe that was lost: that helpers have to be asked, or that the target is suspect; or the code of the error
abbrev pub TellsLoss : Result NodeLost NodeError → EntryPlace → Code → Type 0
TellsLoss (Ok (lost.Ask helpers)) place answer = answer ≡ code.Done
TellsLoss (Ok (lost.Suspect change)) place answer = TellsSuspicion change place answer
TellsLoss (Err error) place answer = answer ≡ code_of_error error

-- helpers that the node's generator draws have to be asked, or there are none and the target is suspect, or the code is the error
abbrev pub LosesBy : ℕ → ℕ → EntryPlace → Node Sha256Hash → Code → Node Sha256Hash → Type 0
LosesBy number moment place old answer new =
    (loss : Result NodeLost NodeError) × TellsLoss loss place answer × LostStep old number moment loss new × LostDraw old number loss new

-- the output for a helper's report: the target's entry if the verdict makes it suspect; or the code of the error
abbrev pub TellsOutcome : Result NodeOutcome NodeError → EntryPlace → Code → Type 0
TellsOutcome (Ok word.Waiting) place answer = answer ≡ code.Waiting
TellsOutcome (Ok word.Reached) place answer = answer ≡ code.Done
TellsOutcome (Ok (word.Suspect change)) place answer = TellsSuspicion change place answer
TellsOutcome (Ok word.Inconclusive) place answer = answer ≡ code.Inconclusive
TellsOutcome (Err error) place answer = answer ≡ code_of_error error

-- a helper's report is processed, or the code is the error
abbrev pub HearsHelper : ℕ → ℕ → Said → ℕ → EntryPlace → Node Sha256Hash → Code → Node Sha256Hash → Type 0
HearsHelper number helper said moment place old answer new =
    (outcome : Result NodeOutcome NodeError) × TellsOutcome outcome place answer × HelperStep old number helper said moment outcome new

-- a helper that is waited for is written; or there is none
abbrev pub TellsHelper : Option ℕ → ℕ → ℕ → Code → Type 0
TellsHelper None ip port answer = answer ≡ code.Nothing
TellsHelper (Some helper) ip port answer = (answer ≡ code.Done) × (ip ≡ ip_of helper) × (port ≡ port_of helper)

-- the running probe's number, and the helper of least address that is waited for; that no probe runs, or none is waited for
abbrev pub TellsWaiting : Option Running → ℕ → ℕ → ℕ → Code → Type 0
TellsWaiting None number ip port answer = answer ≡ code.Nothing
TellsWaiting (Some running) number ip port answer = (number ≡ running.number) × TellsHelper running.waiting ip port answer

-- the number and the target of the running probe are written; or none runs
abbrev pub TellsRunning : Option Running → ℕ → ℕ → ℕ → Code → Type 0
TellsRunning None number ip port answer = answer ≡ code.Nothing
TellsRunning (Some running) number ip port answer =
    (answer ≡ code.Done) × (number ≡ running.number) × (ip ≡ ip_of running.target) × (port ≡ port_of running.target)

-- a helper's report, by its number: that it reached the target, that it did not, or that it failed
abbrev pub said_of : ℕ → Option Said
said_of n = cond (n == 0) (Some said.Reached) (cond (n == 1) (Some said.NotReached) (cond (n == 2) (Some said.Failed) None))

-- the probe that runs in the node of a handle, if one does
abbrev pub running_in : Option HeldNode → Option Running
running_in None = None
running_in (Some held) = running_of held.inner.node.probing
