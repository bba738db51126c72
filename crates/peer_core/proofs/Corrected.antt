-- A round that corrects its target: how it may be refused.
use Rattle.std.proofs.Common.{◌≡◌, ℕ, sym, subst, Result, Err}
use Rattle.change_core.specs.declared.addresses.Address.{Address}
use Rattle.detector_core.specs.declared.prober.Probe.{Probe}
use Rattle.locked_node.specs.declared.node.LockedNode.{LockedNode}
use Rattle.locked_node.specs.Passes.{NodePass}
use Rattle.peer_core.specs.declared.errors.ClusterError.{ClusterError}
use Rattle.peer_core.specs.declared.errors.ClusterError.TheVariants as error
use Rattle.peer_core.specs.declared.hearing.Heard.{Heard}
use Rattle.peer_core.specs.declared.rounds.Round.{Round}
use Rattle.peer_core.specs.Errors.{IsHealRefusal, IsRoundRefusal}
use Rattle.peer_core.specs.Links.{MayAnswer}
use Rattle.peer_core.specs.Meeting.{Corrects}
use Rattle.peer_core.specs.Parts.{Does}
use Rattle.peer_core.specs.Rounds.{HearsTarget}
use Rattle.peer_core.proofs.Healed.{corrects_refusal}

-- what was heard of a target, by the answer that it is
pub target_as : {H : Type 0} (Came : MayAnswer) (now : ℕ) (probe : Probe) (known : Heard) {what : Heard} {locked : LockedNode H} {p q : NodePass H} {r : Result Round ClusterError}
    → what ≡ known → Does locked (HearsTarget Came now probe known) r p q → Does locked (HearsTarget Came now probe what) r p q
target_as Came now probe known {locked = locked} {p = p} {q = q} {r = r} e d = subst (λ (x : Heard). Does locked (HearsTarget Came now probe x) r p q) (sym e) d

-- what refuses healing refuses a round, too
in_a_round : (e : ClusterError) → IsHealRefusal e → IsRoundRefusal e
in_a_round error.NoNode h = absurd h
in_a_round error.NoneJoined h = absurd h
in_a_round error.Diverged h = absurd h
in_a_round error.Nobody h = absurd h
in_a_round error.RetriesSpent h = absurd h
in_a_round error.InFlight h = absurd h
in_a_round error.NotInFlight h = absurd h
in_a_round error.HandlerFault h = absurd h
in_a_round error.ForeignPass h = tt
in_a_round error.PassSpent h = tt
in_a_round (error.BadConfig field) h = absurd h
in_a_round error.Exhausted h = absurd h
in_a_round error.Full h = absurd h
in_a_round error.AlreadyLeft h = absurd h
in_a_round error.NotLeft h = absurd h
in_a_round error.Busy h = absurd h
in_a_round error.Spent h = absurd h
in_a_round error.StaleProbe h = absurd h
in_a_round error.NotAsked h = absurd h
in_a_round error.Memory h = tt

-- a correction is refused by the lock or for memory alone
pub named_correction : {H : Type 0} (Came : MayAnswer) (now : ℕ) (a : Address) (what : Heard) (e : ClusterError) {locked : LockedNode H} {p q : NodePass H}
    → Does locked (Corrects Came now a what) (Err e) p q → IsRoundRefusal e
named_correction Came now a what e d = in_a_round e (corrects_refusal Came now a what e _ d.makes.so)
