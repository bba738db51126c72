-- A node accepts at most once that a probe is lost, whatever its threads do. Lost probes and helpers are those of SWIM, section 3.1.
use Rattle.std.specs.Prelude.{◌≡◌, ℕ, List, ◌∷◌, ◌++◌, Ok, Err}
use Rattle.std.specs.List.{All}
use Rattle.node_core.specs.declared.errors.NodeError.TheVariants as refusal
use Rattle.node_core.specs.declared.events.Event.TheVariants as call
use Rattle.node_core.specs.declared.events.NodeLost.{NodeLost}
use Rattle.node_core.specs.declared.events.Reply.TheVariants as reply
use Rattle.node_core.specs.Calls.{OfEvent, WithReply}
use Rattle.node_core.specs.Node.{Node}
use Rattle.turn_lock.specs.declared.kept.Turn.{Turn}
use Rattle.turn_lock.specs.History.{turn}
use Rattle.locked_node.specs.History.{CallEntry, entry_of, History, LegalHistory}

-- a call that reports the loss of this probe is refused, since the probe is stale
abbrev pub LosesNoMore : {H : Type 0} → ℕ → CallEntry H → Type 0
LosesNoMore number e = (moment : ℕ) → e.call ≡ OfEvent (call.Lost number moment) → e.answer ≡ WithReply (reply.Lost (Err refusal.StaleProbe))

-- once a node has accepted that a probe is lost, every later call that reports it again, by whatever pass, is refused, whether the probe's
-- helpers have answered or not
abbrev pub LossesAreTakenOnce : {H : Type 0} → (H → List ℕ → ℕ) → Type 0
LossesAreTakenOnce {H} hash_of =
    (opening after last : Node H) (before later : History H) (pass number moment : ℕ) (loss : NodeLost)
    → LegalHistory hash_of opening (before ++ turn pass (entry_of (OfEvent (call.Lost number moment)) (WithReply (reply.Lost (Ok loss))) after) ∷ later) last
    → All (λ (t : Turn (CallEntry H)). LosesNoMore number t.entry) later
