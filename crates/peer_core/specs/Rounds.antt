-- A round of gossip: all its calls of the node, in their order, with the messages over the link between them. Probes and helpers are those
-- of SWIM, section 3.1.
use Rattle.std.specs.Prelude.{◌==◌, ℕ, Bool, true, false, List, [], ◌∷◌, Option, Some, None, Result, Ok, Err, if◌then◌else◌}
use Rattle.change_core.specs.declared.addresses.Address.{Address}
use Rattle.change_core.specs.declared.changes.Change.{Change}
use Rattle.detector_core.specs.declared.asked.Said.{Said}
use Rattle.detector_core.specs.declared.asked.Said.TheVariants as said
use Rattle.detector_core.specs.declared.prober.Probe.{Probe}
use Rattle.detector_core.specs.declared.prober.Running.{Running}
use Rattle.message_core.specs.declared.messages.Message.{Message}
use Rattle.node_core.specs.declared.errors.NodeError.{NodeError}
use Rattle.node_core.specs.declared.errors.NodeError.TheVariants as refusal
use Rattle.node_core.specs.declared.events.Event.TheVariants as call
use Rattle.node_core.specs.declared.events.NodeLost.{NodeLost}
use Rattle.node_core.specs.declared.events.NodeLost.TheVariants as lost
use Rattle.node_core.specs.declared.events.NodeOutcome.{NodeOutcome}
use Rattle.node_core.specs.declared.events.NodeOutcome.TheVariants as outcome
use Rattle.node_core.specs.declared.events.Reply.TheVariants as reply
use Rattle.peer_core.specs.declared.errors.ClusterError.TheVariants as error
use Rattle.peer_core.specs.declared.hearing.Heard.{Heard}
use Rattle.peer_core.specs.declared.hearing.Heard.TheVariants as heard
use Rattle.peer_core.specs.declared.rounds.Round.{Round}
use Rattle.peer_core.specs.declared.rounds.Round.TheVariants.{Idle, Reached, Suspected, Inconclusive}
use Rattle.peer_core.specs.Asking.{Asked, Pinged}
use Rattle.peer_core.specs.Errors.{error_of_node}
use Rattle.peer_core.specs.Links.{MayAnswer, word_on}
use Rattle.peer_core.specs.Parts.{Part, Turn, onward, ended, Calls, Tries, Asks, Gives, Fails, Next, Until}

-- the report for a helper that answered whether it reached the target, or did not answer that
abbrev pub said_by : Option Bool → Said
said_by (Some true) = said.Reached
said_by (Some false) = said.NotReached
said_by None = said.Failed

-- how a round about the target ends by the result of a helper's report, if that ends it
abbrev pub end_by : Address → NodeOutcome → Option Round
end_by a outcome.Waiting = None
end_by a outcome.Reached = Some (Reached a)
end_by a (outcome.Suspect change) = Some (Suspected a)
end_by a outcome.Inconclusive = Some (Inconclusive a)

-- the helper that the probe of this number waits for, if that is the one that runs
abbrev pub waited_for : ℕ → Option Running → Option Address
waited_for k None = None
waited_for k (Some running) = if running.number == k then running.waiting else None

-- an entry expired, and then the next; or none was due
abbrev pub way_of_expiry : Option Change → Turn (Unit {0}) (Unit {0})
way_of_expiry (Some change) = onward tt
way_of_expiry None = ended tt

-- a helper is waited for still, or no more
abbrev pub way_of_waiting : Option Address → Turn Address (Unit {0})
way_of_waiting (Some h) = onward h
way_of_waiting None = ended tt

-- the round has ended, or not yet
abbrev pub way_of_ending : Option Round → Turn (Unit {0}) Round
way_of_ending (Some round) = ended round
way_of_ending None = onward tt

module _ {H : Type 0} where
  -- this round's end, or else what comes next
  abbrev pub Unless : Option Round → Part H (Option Round) → Part H (Option Round)
  Unless (Some round) Rest = Gives (Some round)
  Unless None Rest = Rest

  -- if a probe still waits after a helper failed, the next helper that it waits for is looked up
  abbrev pub LooksOn : ℕ → NodeOutcome → Part H (Option Address)
  LooksOn k outcome.Waiting = Next (Calls call.Running reply.Running) (λ running. Gives (waited_for k running))
  LooksOn k outcome.Reached = Gives None
  LooksOn k (outcome.Suspect change) = Gives None
  LooksOn k outcome.Inconclusive = Gives None

module _ {H : Type 0} (now : ℕ) where
  -- due entries expire, one after the other, until none is due
  abbrev pub Expires : Part H (Unit {0})
  Expires = Until (λ u. Tries (call.Expire now) reply.Expire) way_of_expiry tt

  -- a message is processed, whatever the result
  abbrev pub Takes : Message → Part H (Unit {0})
  Takes message = Next (Calls (call.Receive message now) reply.Receive) (λ received. Gives tt)

  -- a helper's report is passed to the node
  abbrev pub TellsWord : ℕ → Address → Said → Part H NodeOutcome
  TellsWord k h s = Tries (call.HelperSaid k h s now) reply.HelperSaid

  -- the Ack of a probe's target is processed, and directly after it the probe has reached its target
  abbrev pub Acknowledges : Probe → Message → Part H Round
  Acknowledges probe ack = Next (Takes ack) (λ u. Next (Tries (call.Acked probe.number) reply.Acked) (λ u. Gives (Reached probe.target)))

  -- a helper was asked: its report on the target is processed and passed on, or else it failed; out of memory is the error of the round
  abbrev pub HearsHelper : Probe → Address → Heard → Part H NodeOutcome
  HearsHelper probe h (heard.Answer message) = Next (Takes message) (λ u. TellsWord probe.number h (said_by (word_on probe.target message.content)))
  HearsHelper probe h heard.Other = TellsWord probe.number h said.Failed
  HearsHelper probe h heard.OutOfMemory = Fails error.Memory

  -- a helper failed, and perhaps another is waited for
  abbrev pub FailsOne : ℕ → Address → Part H (Option Address)
  FailsOne k h = Next (TellsWord k h said.Failed) (LooksOn k)

  -- a helper failed, and so did each that is waited for then, until the probe of this number has ended
  abbrev pub FailsFrom : ℕ → Address → Part H (Unit {0})
  FailsFrom k = Until (FailsOne k) way_of_waiting

module _ {H : Type 0} (Came : MayAnswer) (now : ℕ) where
  -- a helper is asked once about the target, and its report is passed to the node
  abbrev pub AsksHelper : Probe → Address → Part H NodeOutcome
  AsksHelper probe h = Next (Asks (Asked Came h probe.target)) (HearsHelper now probe h)

  -- the helpers are asked in their order, until the probe has ended
  abbrev pub AsksHelpers : Probe → List Address → Part H (Option Round)
  AsksHelpers probe [] = Gives None
  AsksHelpers probe (h ∷ hs) = Next (AsksHelper probe h) (λ o. Unless (end_by probe.target o) (AsksHelpers probe hs))

  -- a probe was lost: the helpers that the node names are asked, or its target is suspect
  abbrev pub FollowsLoss : Probe → NodeLost → Part H (Option Round)
  FollowsLoss probe (lost.Ask helpers) = AsksHelpers probe helpers
  FollowsLoss probe (lost.Suspect change) = Gives (Some (Suspected probe.target))

  -- a probe is reported to the node as lost, and its reply is followed
  abbrev pub LosesOnce : Probe → Part H (Option Round)
  LosesOnce probe = Next (Tries (call.Lost probe.number now) reply.Lost) (FollowsLoss probe)

  -- a probe is lost; if all helpers were asked and it has not ended, the node is called with that again
  abbrev pub GivesUp : Probe → Part H Round
  GivesUp probe = Until (λ u. LosesOnce probe) way_of_ending tt

  -- the target was pinged: its Ack is processed, or else the probe is lost; out of memory is the error of the round
  abbrev pub HearsTarget : Probe → Heard → Part H Round
  HearsTarget probe (heard.Answer ack) = Acknowledges now probe ack
  HearsTarget probe heard.Other = GivesUp probe
  HearsTarget probe heard.OutOfMemory = Fails error.Memory

  -- the target of a probe is pinged once, and the probe completed
  abbrev pub Probes : Probe → Part H Round
  Probes probe = Next (Asks (Pinged Came probe.target)) (HearsTarget probe)

  -- a probe that was found running is completed: its helpers that are waited for have failed, or if there is none, its target is pinged
  -- again
  abbrev pub FinishesBy : Running → Option Address → Part H (Unit {0})
  FinishesBy running (Some h) = FailsFrom now running.number h
  FinishesBy running None = Next (Probes (record { number = running.number; target = running.target })) (λ round. Gives tt)

  -- the same of the one that runs, if any does
  abbrev pub Finishes : Option Running → Part H (Unit {0})
  Finishes (Some running) = FinishesBy running running.waiting
  Finishes None = Gives tt

  -- a probe is asked for again, after the one that ran
  abbrev pub BeginsAgain : Part H (Option Probe)
  BeginsAgain = Next (Next (Calls call.Running reply.Running) Finishes) (λ u. Tries call.Probe reply.Probe)

  -- a probe was asked for: one that runs is completed first, and any other reply is the result
  abbrev pub FollowsProbe : Result (Option Probe) NodeError → Part H (Option Probe)
  FollowsProbe (Ok probe) = Gives probe
  FollowsProbe (Err refusal.Busy) = BeginsAgain
  FollowsProbe (Err n) = Fails (error_of_node n)

  -- the next member in turn is to be probed, or none can be
  abbrev pub Begins : Part H (Option Probe)
  Begins = Next (Calls call.Probe reply.Probe) FollowsProbe

  -- no member can be probed, or the probe is completed
  abbrev pub Goes : Option Probe → Part H Round
  Goes None = Gives Idle
  Goes (Some probe) = Probes probe

  -- a round at this moment: due entries expire, a probe starts, and is completed
  abbrev pub IsRound : Part H Round
  IsRound = Next (Expires now) (λ u. Next Begins Goes)
