-- No call changes a node's own address, its hash or its configuration.
use Rattle.std.proofs.Common.{◌≡◌, ℕ, List, [], ◌∷◌, Option, Some, None, Ok, Err, Result, refl, ◌∙◌, ap, take}
use Rattle.change_core.specs.declared.changes.Change.{Change}
use Rattle.change_core.specs.declared.changes.Sourced.{Sourced}
use Rattle.message_core.specs.declared.messages.Message.{Message}
use Rattle.message_core.specs.declared.messages.Content.{Content}
use Rattle.message_core.specs.declared.messages.Content.TheVariants as content
use Rattle.node_core.specs.declared.configs.Config.{Config}
use Rattle.node_core.specs.declared.errors.NodeError.{NodeError}
use Rattle.node_core.specs.declared.errors.NodeError.TheVariants as error
use Rattle.node_core.specs.declared.events.Event.{Event}
use Rattle.node_core.specs.declared.events.Event.TheVariants as event
use Rattle.node_core.specs.declared.events.NodeLost.TheVariants as lost
use Rattle.node_core.specs.declared.events.NodeOutcome.TheVariants as answered
use Rattle.node_core.specs.declared.events.Received.{Received}
use Rattle.node_core.specs.declared.events.Received.TheVariants as received
use Rattle.node_core.specs.declared.events.Reply.{Reply}
use Rattle.node_core.specs.declared.events.Reply.TheVariants as reply
use Rattle.node_core.specs.declared.events.Stopped.{Stopped}
use Rattle.node_core.specs.declared.events.Taken.{Taken}
use Rattle.node_core.specs.Calls.{Call, OfEvent, OfView, Answer, WithReply, WithView, CallStep}
use Rattle.node_core.specs.Itself.{IsItself, CallsLeaveItself}
use Rattle.node_core.specs.Node.{Node, at_moment}
use Rattle.node_core.specs.Probes.{put_in, ended}
use Rattle.node_core.specs.Receiving.{AnswerStep, ReceiveStep, MakeStep}
use Rattle.node_core.specs.Run.{IsRun}
use Rattle.node_core.specs.Step.{NodeStep}
use Rattle.node_core.specs.Taking.{TakeStep, alteration, altered_by, took, took_all}

module _ {H : Type 0} where
  abbrev self : Node H → ℕ × (H × Config)
  self node = (node.own, (node.hash, node.config))

  -- the new node is this one, which is as the old one was
  as_is : (old new after : Node H) → new ≡ after → self after ≡ self old → self new ≡ self old
  as_is old new after e f = ap self e ∙ f

  altered_self : (node : Node H) (o : Option Sourced) → self (altered_by node o) ≡ self node
  altered_self node None = refl
  altered_self node (Some s) = refl

  took_self : (node : Node H) (ss : List Sourced) → self (took_all node ss) ≡ self node
  took_self node [] = refl
  took_self node (s ∷ ss) = took_self (took node s) ss ∙ altered_self node (alteration node s)

  put_in_self : (node : Node H) (change : Option Change) → self (ended (put_in node change)) ≡ self node
  put_in_self node None = refl
  put_in_self node (Some c) = refl

  take_self : (old new : Node H) (given : List Sourced) (moment : ℕ) (result : Result Taken Stopped) → TakeStep old given moment result new → self new ≡ self old
  take_self old new given moment (Ok taken) step = as_is old new _ step.new_is (took_self (at_moment old moment) given)
  take_self old new given moment (Err stopped) step = as_is old new _ step.new_is (took_self (at_moment old moment) (take stopped.taken given))

  answer_self : (old mid new : Node H) (source : ℕ) (b : Content) (answer : Message) → AnswerStep mid source b answer new → self mid ≡ self old → self new ≡ self old
  answer_self old mid new source (content.Join news) answer step e = as_is old new mid step.1 e
  answer_self old mid new source (content.Ping news) answer step e = ap self step.1 ∙ e
  answer_self old mid new source other answer step e = elim step [ ]

  receive_self : (old new : Node H) (message : Message) (moment : ℕ) (r : Received) → ReceiveStep old message moment r new → self new ≡ self old
  receive_self old new message moment (received.Done taken) step = take_self old new _ moment (Ok taken) step.2
  receive_self old new message moment (received.Answer taken answer) step =
      answer_self old step.0 new message.source message.content answer step.2 (take_self old step.0 _ moment (Ok taken) step.1)
  receive_self old new message moment (received.NoAnswer taken) step = take_self old new _ moment (Ok taken) step.1
  receive_self old new message moment (received.Stopped stopped) step = take_self old new _ moment (Err stopped) step.1
  receive_self old new message moment received.NotGossip step = ap self step.1

  make_self : (old new after : Node H) (m : Message) (result : Result Message NodeError) → MakeStep old m after result new → self after ≡ self old → self new ≡ self old
  make_self old new after m (Ok made) step e = as_is old new after step.1 e
  make_self old new after m (Err error.Memory) step e = ap self step
  make_self old new after m (Err other) step e = elim step [ ]

module _ {H : Type 0} (hash_of : H → List ℕ → ℕ) where
  step_self : (old new : Node H) (e : Event) (r : Reply) → NodeStep hash_of old e r new → self new ≡ self old
  step_self old new (event.Take given moment) (reply.Take result) step = take_self old new given moment result step
  step_self old new (event.Receive message moment) (reply.Receive r) step = receive_self old new message moment r step
  step_self old new event.JoinMessage (reply.JoinMessage result) step = make_self old new _ _ result step refl
  step_self old new (event.PingTo target) (reply.PingTo result) step = make_self old new _ _ result step refl
  step_self old new (event.PingReqTo helper target) (reply.PingReqTo result) step = make_self old new _ _ result step refl
  step_self old new (event.PingReqAckTo requester target reached) (reply.PingReqAckTo result) step = make_self old new _ _ result step refl
  step_self old new event.Leave (reply.Leave (Ok change)) step = ap self step.2
  step_self old new event.Leave (reply.Leave (Err error.AlreadyLeft)) step = ap self step.1
  step_self old new event.Leave (reply.Leave (Err error.Memory)) step = ap self step.1
  step_self old new event.Rejoin (reply.Rejoin (Ok change)) step = ap self step.3
  step_self old new event.Rejoin (reply.Rejoin (Err error.NotLeft)) step = ap self step.1
  step_self old new event.Rejoin (reply.Rejoin (Err error.Exhausted)) step = ap self step.2
  step_self old new event.Rejoin (reply.Rejoin (Err error.Memory)) step = ap self step.2
  step_self old new (event.Expire moment) (reply.Expire (Ok None)) step = ap self step.1
  step_self old new (event.Expire moment) (reply.Expire (Ok (Some change))) step = ap self step.3
  step_self old new (event.Expire moment) (reply.Expire (Err error.Memory)) step = ap self step.1
  step_self old new event.Probe (reply.Probe (Ok (Some pick))) step = ap self step.2
  step_self old new event.Probe (reply.Probe (Ok None)) step = ap self step.3
  step_self old new event.Probe (reply.Probe (Err error.Busy)) step = ap self step.1
  step_self old new event.Probe (reply.Probe (Err error.Spent)) step = ap self step.2
  step_self old new event.Probe (reply.Probe (Err error.Memory)) step = ap self step.3
  step_self old new (event.Acked number) (reply.Acked (Ok done)) step = ap self step.1
  step_self old new (event.Acked number) (reply.Acked (Err error.StaleProbe)) step = ap self step.1
  step_self old new (event.Lost number moment) (reply.Lost (Ok (lost.Ask helpers))) step = ap self step.3
  step_self old new (event.Lost number moment) (reply.Lost (Ok (lost.Suspect change))) step =
      as_is old new _ step.3.new_is (put_in_self (at_moment old moment) change)
  step_self old new (event.Lost number moment) (reply.Lost (Err error.StaleProbe)) step = ap self step.1
  step_self old new (event.Lost number moment) (reply.Lost (Err error.Memory)) step = ap self step.3
  step_self old new (event.HelperSaid number helper said moment) (reply.HelperSaid (Ok answered.Waiting)) step = ap self step.1
  step_self old new (event.HelperSaid number helper said moment) (reply.HelperSaid (Ok answered.Reached)) step = ap self step.1
  step_self old new (event.HelperSaid number helper said moment) (reply.HelperSaid (Ok (answered.Suspect change))) step =
      as_is old new _ step.3.new_is (put_in_self (at_moment old moment) change)
  step_self old new (event.HelperSaid number helper said moment) (reply.HelperSaid (Ok answered.Inconclusive)) step = ap self step.1
  step_self old new (event.HelperSaid number helper said moment) (reply.HelperSaid (Err error.StaleProbe)) step = ap self step.1
  step_self old new (event.HelperSaid number helper said moment) (reply.HelperSaid (Err error.NotAsked)) step = ap self step.1
  step_self old new (event.HelperSaid number helper said moment) (reply.HelperSaid (Err error.Memory)) step = ap self step.4
  step_self old new event.Own (reply.Own change) step = ap self step.1
  step_self old new (event.Member a) (reply.Member entry) step = ap self step.1
  step_self old new event.Len (reply.Len n) step = ap self step.1
  step_self old new (event.Owner key) (reply.Owner owner) step = ap self step.1
  step_self old new (event.Owners key n) (reply.Owners result) step = ap self step.1
  step_self old new event.Members (reply.Members result) step = ap self step.1
  step_self old new event.DigestText (reply.DigestText result) step = ap self step.1
  step_self old new event.Digest (reply.Digest result) step = ap self step.1
  step_self old new event.Running (reply.Running running) step = ap self step.1
  step_self old new e r step = elim step [ ]

  call_self : (old new : Node H) (call : Call) (answer : Answer H) → CallStep hash_of old call answer new → self new ≡ self old
  call_self old new (OfEvent e) (WithReply r) step = step_self old new e r step
  call_self old new OfView (WithView result) step = ap self step.1
  call_self old new call answer step = elim step [ ]

  run_self : (old : Node H) (events : List Event) (replies : List Reply) (new : Node H) → IsRun hash_of old events replies new → self new ≡ self old
  run_self old [] [] new run = ap self run
  run_self old [] (r ∷ rs) new run = absurd run
  run_self old (e ∷ es) [] new run = absurd run
  run_self old (e ∷ es) (r ∷ rs) new run = run_self run.0 es rs new run.2 ∙ step_self old run.0 e r run.1

  itself : (old new : Node H) → self new ≡ self old → IsItself old new
  itself old new e = record {
    own_stays = ap (λ (x : ℕ × (H × Config)). x.0) e;
    hash_stays = ap (λ (x : ℕ × (H × Config)). x.1.0) e;
    config_stays = ap (λ (x : ℕ × (H × Config)). x.1.1) e;
  }

  pub calls_leave_itself : CallsLeaveItself hash_of
  calls_leave_itself old new call answer step = itself old new (call_self old new call answer step)

  pub run_itself : (old : Node H) (events : List Event) (replies : List Reply) (new : Node H) → IsRun hash_of old events replies new → IsItself old new
  run_itself old events replies new run = itself old new (run_self old events replies new run)
