-- Once it was taken that a probe is lost, the probe stays one that cannot be lost: no later probe bears its number, and its helpers stay asked.
use Rattle.std.proofs.Common.{◌≡◌, ℕ, ◌+◌, ◌≤◌, ◌<◌, ◌&&◌, Bool, true, false, cond, eqb, length, List, [], ◌∷◌, ◌++◌, Option, Some, None, Ok, Err, Result, refl, sym, ◌∙◌, ap, subst, take, arith}
use Rattle.std.specs.List.{All}
use Rattle.std.specs.Option.{option_and_then}
use Rattle.std.proofs.lemmas.Bool.{eqb-true, ne_eqb}
use Rattle.std.proofs.lemmas.List.{length-map}
use Rattle.std.proofs.lemmas.List.Elements.{All-cons, All-nil}
use Rattle.change_core.specs.declared.changes.Change.{Change}
use Rattle.change_core.specs.declared.changes.Sourced.{Sourced}
use Rattle.detector_core.specs.declared.asked.AskedHelper.{AskedHelper}
use Rattle.detector_core.specs.declared.asked.Outcome.TheVariants as outcome
use Rattle.detector_core.specs.declared.asked.Said.{Said}
use Rattle.detector_core.specs.Helpers.{noted, unanswered}
use Rattle.detector_core.specs.Picks.{WasAsked}
use Rattle.detector_core.specs.Probing.{ProbeState, OpenedProbe, unasked_target, after_saying, left_running}
use Rattle.message_core.specs.declared.messages.Message.{Message}
use Rattle.message_core.specs.declared.messages.Content.{Content}
use Rattle.message_core.specs.declared.messages.Content.TheVariants as content
use Rattle.node_core.specs.declared.errors.NodeError.{NodeError}
use Rattle.node_core.specs.declared.errors.NodeError.TheVariants as error
use Rattle.node_core.specs.declared.events.Event.{Event}
use Rattle.node_core.specs.declared.events.Event.TheVariants as event
use Rattle.node_core.specs.declared.events.NodeLost.{NodeLost}
use Rattle.node_core.specs.declared.events.NodeLost.TheVariants as lost
use Rattle.node_core.specs.declared.events.NodeOutcome.TheVariants as answered
use Rattle.node_core.specs.declared.events.Received.{Received}
use Rattle.node_core.specs.declared.events.Received.TheVariants as received
use Rattle.node_core.specs.declared.events.Reply.{Reply}
use Rattle.node_core.specs.declared.events.Reply.TheVariants as reply
use Rattle.node_core.specs.declared.events.Stopped.{Stopped}
use Rattle.node_core.specs.declared.events.Taken.{Taken}
use Rattle.node_core.specs.Calls.{Call, OfEvent, OfView, Answer, WithReply, WithView, CallStep}
use Rattle.node_core.specs.Node.{Node, at_moment, pingable}
use Rattle.node_core.specs.Probes.{put_in, ended, LostStep}
use Rattle.node_core.specs.Receiving.{AnswerStep, ReceiveStep, MakeStep}
use Rattle.node_core.specs.Step.{NodeStep}
use Rattle.node_core.specs.Taking.{TakeStep, alteration, altered_by, took, took_all}
use Rattle.turn_lock.specs.declared.kept.Turn.{Turn}
use Rattle.turn_lock.specs.History.{turn}
use Rattle.locked_node.specs.History.{CallEntry, entry_of, History, LegalHistory}
use Rattle.locked_node.specs.Losses.{LosesNoMore, LossesAreTakenOnce}

module _ (k : ℕ) where
  -- the probe of this number was begun, and none runs that has this number and has asked nobody
  abbrev IsSpent : ProbeState → Type 0
  IsSpent s = (k ≤ s.last) × (unasked_target s k ≡ None)

  -- a probe that has asked nobody runs
  unasked_runs : (s : ProbeState) (target : ℕ) → unasked_target s k ≡ Some target → k ≡ s.last
  unasked_runs s target e = by_running s.running e
    where
      by_test : (b c : Bool) (t : ℕ) → cond (b && c) (Some t) None ≡ Some target → b ≡ true
      by_test true c t j = refl
      by_test false c t j = cc

      by_running : (o : Option OpenedProbe) → option_and_then (λ (a : OpenedProbe). cond (eqb k s.last && eqb (length a.asked) 0) (Some a.target) None) o ≡ Some target → k ≡ s.last
      by_running None j = cc
      by_running (Some a) j = eqb-true k s.last (by_test (eqb k s.last) (eqb (length a.asked) 0) a.target j)

  -- one that has asked is none that has asked nobody
  has_asked : (s : ProbeState) (a : OpenedProbe) → s.running ≡ Some a → 0 < length a.asked → unasked_target s k ≡ None
  has_asked s a e some =
      ap (λ (o : Option OpenedProbe). option_and_then (λ (a : OpenedProbe). cond (eqb k s.last && eqb (length a.asked) 0) (Some a.target) None) o) e
      ∙ by_test (eqb k s.last) (eqb (length a.asked) 0) (ne_eqb (length a.asked) 0 (λ j. omega (arith, some, j)))
    where
      by_test : (b c : Bool) → c ≡ false → cond (b && c) (Some a.target) None ≡ None
      by_test true true j = cc
      by_test true false j = refl
      by_test false c j = refl

  -- a newer probe has another number
  newer : (s t : ProbeState) → k ≤ s.last → t.last ≡ s.last + 1 → IsSpent t
  newer s t le e = (omega (arith, le, e), by_running t.running)
    where
      by_test : (b c : Bool) (target : ℕ) → b ≡ false → cond (b && c) (Some target) None ≡ None
      by_test true c target j = cc
      by_test false c target j = refl

      by_running : (o : Option OpenedProbe) → option_and_then (λ (a : OpenedProbe). cond (eqb k t.last && eqb (length a.asked) 0) (Some a.target) None) o ≡ None
      by_running None = refl
      by_running (Some a) = by_test (eqb k t.last) (eqb (length a.asked) 0) a.target (ne_eqb k t.last (λ j. omega (arith, le, e, j)))

  asked_spent : (pingable : List ℕ) (target : ℕ) (s : ProbeState) (helpers : List ℕ) (t : ProbeState) → k ≤ s.last → WasAsked pingable target s helpers t → IsSpent t
  asked_spent pingable target s helpers t le was =
      let said_nothing : ℕ → AskedHelper = λ h. record { helper = h; said = None } in (
        omega (arith, le, ap (λ (x : ProbeState). x.last) was.left),
        has_asked t (record { target = target; asked = unanswered helpers }) (ap (λ (x : ProbeState). x.running) was.left)
            (omega (arith, length-map helpers said_nothing, was.somebody, was.chosen.as_many)),
      )

  -- whoever was asked stays so
  waits_on : (s : ProbeState) (helper : ℕ) (said : Said) → unasked_target s k ≡ None → unasked_target (after_saying s helper said outcome.Waiting) k ≡ None
  waits_on s helper said e = by_running s.running e
    where
      by_running : (o : Option OpenedProbe) → option_and_then (λ (a : OpenedProbe). cond (eqb k s.last && eqb (length a.asked) 0) (Some a.target) None) o ≡ None
          → option_and_then (λ (a : OpenedProbe). cond (eqb k s.last && eqb (length a.asked) 0) (Some a.target) None) (option_and_then (left_running outcome.Waiting helper said) o) ≡ None
      by_running None j = refl
      by_running (Some a) j =
          subst (λ (n : ℕ). cond (eqb k s.last && eqb n 0) (Some a.target) None ≡ None) (sym (length-map a.asked (noted helper said))) j

module _ {H : Type 0} where
  abbrev probing_of : Node H → ProbeState
  probing_of node = node.probing

  altered_probing : (node : Node H) (o : Option Sourced) → probing_of (altered_by node o) ≡ probing_of node
  altered_probing node None = refl
  altered_probing node (Some s) = refl

  took_probing : (node : Node H) (ss : List Sourced) → probing_of (took_all node ss) ≡ probing_of node
  took_probing node [] = refl
  took_probing node (s ∷ ss) = took_probing (took node s) ss ∙ altered_probing node (alteration node s)

  put_in_probing : (node : Node H) (change : Option Change) → probing_of (ended (put_in node change)) ≡ record node.probing { running = None }
  put_in_probing node None = refl
  put_in_probing node (Some c) = refl

  take_probing : (old new : Node H) (given : List Sourced) (moment : ℕ) (result : Result Taken Stopped) → TakeStep old given moment result new → probing_of new ≡ probing_of old
  take_probing old new given moment (Ok taken) step = ap probing_of step.new_is ∙ took_probing (at_moment old moment) given
  take_probing old new given moment (Err stopped) step = ap probing_of step.new_is ∙ took_probing (at_moment old moment) (take stopped.taken given)

  answer_probing : (old mid new : Node H) (source : ℕ) (b : Content) (answer : Message) → AnswerStep mid source b answer new → probing_of mid ≡ probing_of old → probing_of new ≡ probing_of old
  answer_probing old mid new source (content.Join news) answer step e = ap probing_of step.1 ∙ e
  answer_probing old mid new source (content.Ping news) answer step e = ap probing_of step.1 ∙ e
  answer_probing old mid new source other answer step e = elim step [ ]

  receive_probing : (old new : Node H) (message : Message) (moment : ℕ) (r : Received) → ReceiveStep old message moment r new → probing_of new ≡ probing_of old
  receive_probing old new message moment (received.Done taken) step = take_probing old new _ moment (Ok taken) step.2
  receive_probing old new message moment (received.Answer taken answer) step =
      answer_probing old step.0 new message.source message.content answer step.2 (take_probing old step.0 _ moment (Ok taken) step.1)
  receive_probing old new message moment (received.NoAnswer taken) step = take_probing old new _ moment (Ok taken) step.1
  receive_probing old new message moment (received.Stopped stopped) step = take_probing old new _ moment (Err stopped) step.1
  receive_probing old new message moment received.NotGossip step = ap probing_of step.1

  make_probing : (old new after : Node H) (m : Message) (result : Result Message NodeError) → MakeStep old m after result new → probing_of after ≡ probing_of old → probing_of new ≡ probing_of old
  make_probing old new after m (Ok made) step e = ap probing_of step.1 ∙ e
  make_probing old new after m (Err error.Memory) step e = ap probing_of step
  make_probing old new after m (Err other) step e = elim step [ ]

module _ {H : Type 0} (hash_of : H → List ℕ → ℕ) (k : ℕ) where
  -- what leaves the prober as it is
  same : (old new : Node H) → new.probing ≡ old.probing → IsSpent k old.probing → IsSpent k new.probing
  same old new e spent = subst (λ (s : ProbeState). IsSpent k s) (sym e) spent

  -- what ends the probe that runs
  ends : (old new : Node H) → new.probing ≡ record old.probing { running = None } → IsSpent k old.probing → IsSpent k new.probing
  ends old new e spent = subst (λ (s : ProbeState). IsSpent k s) (sym e) (spent.0, refl)

  step_keeps : (old new : Node H) (e : Event) (r : Reply) → NodeStep hash_of old e r new → IsSpent k old.probing → IsSpent k new.probing
  step_keeps old new (event.Take given moment) (reply.Take result) step = same old new (take_probing old new given moment result step)
  step_keeps old new (event.Receive message moment) (reply.Receive r) step = same old new (receive_probing old new message moment r step)
  step_keeps old new event.JoinMessage (reply.JoinMessage result) step = same old new (make_probing old new _ _ result step refl)
  step_keeps old new (event.PingTo target) (reply.PingTo result) step = same old new (make_probing old new _ _ result step refl)
  step_keeps old new (event.PingReqTo helper target) (reply.PingReqTo result) step = same old new (make_probing old new _ _ result step refl)
  step_keeps old new (event.PingReqAckTo requester target reached) (reply.PingReqAckTo result) step = same old new (make_probing old new _ _ result step refl)
  step_keeps old new event.Leave (reply.Leave (Ok change)) step = same old new (ap probing_of step.2)
  step_keeps old new event.Leave (reply.Leave (Err error.AlreadyLeft)) step = same old new (ap probing_of step.1)
  step_keeps old new event.Leave (reply.Leave (Err error.Memory)) step = same old new (ap probing_of step.1)
  step_keeps old new event.Rejoin (reply.Rejoin (Ok change)) step = same old new (ap probing_of step.3)
  step_keeps old new event.Rejoin (reply.Rejoin (Err error.NotLeft)) step = same old new (ap probing_of step.1)
  step_keeps old new event.Rejoin (reply.Rejoin (Err error.Exhausted)) step = same old new (ap probing_of step.2)
  step_keeps old new event.Rejoin (reply.Rejoin (Err error.Memory)) step = same old new (ap probing_of step.2)
  step_keeps old new (event.Expire moment) (reply.Expire (Ok None)) step = same old new (ap probing_of step.1)
  step_keeps old new (event.Expire moment) (reply.Expire (Ok (Some change))) step = same old new (ap probing_of step.3)
  step_keeps old new (event.Expire moment) (reply.Expire (Err error.Memory)) step = same old new (ap probing_of step.1)
  step_keeps old new event.Probe (reply.Probe (Ok (Some pick))) step =
      λ spent. newer k old.probing new.probing spent.0 (ap (λ (s : ProbeState). s.last) step.1.left)
  step_keeps old new event.Probe (reply.Probe (Ok None)) step = same old new (ap probing_of step.3)
  step_keeps old new event.Probe (reply.Probe (Err error.Busy)) step = same old new (ap probing_of step.1)
  step_keeps old new event.Probe (reply.Probe (Err error.Spent)) step = same old new (ap probing_of step.2)
  step_keeps old new event.Probe (reply.Probe (Err error.Memory)) step = same old new (ap probing_of step.3)
  step_keeps old new (event.Acked number) (reply.Acked (Ok done)) step = ends old new (ap probing_of step.1)
  step_keeps old new (event.Acked number) (reply.Acked (Err error.StaleProbe)) step = same old new (ap probing_of step.1)
  step_keeps old new (event.Lost number moment) (reply.Lost (Ok (lost.Ask helpers))) step =
      λ spent. asked_spent k (pingable old) step.0 old.probing helpers new.probing spent.0 step.2
  step_keeps old new (event.Lost number moment) (reply.Lost (Ok (lost.Suspect change))) step =
      ends old new (ap probing_of step.3.new_is ∙ put_in_probing (at_moment old moment) change)
  step_keeps old new (event.Lost number moment) (reply.Lost (Err error.StaleProbe)) step = same old new (ap probing_of step.1)
  step_keeps old new (event.Lost number moment) (reply.Lost (Err error.Memory)) step = same old new (ap probing_of step.3)
  step_keeps old new (event.HelperSaid number helper said moment) (reply.HelperSaid (Ok answered.Waiting)) step =
      λ spent. subst (λ (s : ProbeState). IsSpent k s) (sym (ap probing_of step.1)) (spent.0, waits_on k old.probing helper said spent.1)
  step_keeps old new (event.HelperSaid number helper said moment) (reply.HelperSaid (Ok answered.Reached)) step = ends old new (ap probing_of step.1)
  step_keeps old new (event.HelperSaid number helper said moment) (reply.HelperSaid (Ok (answered.Suspect change))) step =
      ends old new (ap probing_of step.3.new_is ∙ put_in_probing (at_moment old moment) change)
  step_keeps old new (event.HelperSaid number helper said moment) (reply.HelperSaid (Ok answered.Inconclusive)) step = ends old new (ap probing_of step.1)
  step_keeps old new (event.HelperSaid number helper said moment) (reply.HelperSaid (Err error.StaleProbe)) step = same old new (ap probing_of step.1)
  step_keeps old new (event.HelperSaid number helper said moment) (reply.HelperSaid (Err error.NotAsked)) step = same old new (ap probing_of step.1)
  step_keeps old new (event.HelperSaid number helper said moment) (reply.HelperSaid (Err error.Memory)) step = same old new (ap probing_of step.4)
  step_keeps old new event.Own (reply.Own change) step = same old new (ap probing_of step.1)
  step_keeps old new (event.Member a) (reply.Member entry) step = same old new (ap probing_of step.1)
  step_keeps old new event.Len (reply.Len n) step = same old new (ap probing_of step.1)
  step_keeps old new (event.Owner key) (reply.Owner owner) step = same old new (ap probing_of step.1)
  step_keeps old new (event.Owners key n) (reply.Owners result) step = same old new (ap probing_of step.1)
  step_keeps old new event.Members (reply.Members result) step = same old new (ap probing_of step.1)
  step_keeps old new event.DigestText (reply.DigestText result) step = same old new (ap probing_of step.1)
  step_keeps old new event.Digest (reply.Digest result) step = same old new (ap probing_of step.1)
  step_keeps old new event.Running (reply.Running running) step = same old new (ap probing_of step.1)
  step_keeps old new e r step = elim step [ ]

  call_keeps : (old new : Node H) (call : Call) (answer : Answer H) → CallStep hash_of old call answer new → IsSpent k old.probing → IsSpent k new.probing
  call_keeps old new (OfEvent e) (WithReply r) step = step_keeps old new e r step
  call_keeps old new OfView (WithView result) step = same old new (ap probing_of step.1)
  call_keeps old new call answer step = elim step [ ]

  -- once it is taken that a probe is lost
  lost_spent : (old new : Node H) (moment : ℕ) (loss : NodeLost) → LostStep old k moment (Ok loss) new → IsSpent k new.probing
  lost_spent old new moment (lost.Ask helpers) step =
      asked_spent k (pingable old) step.0 old.probing helpers new.probing (omega (arith, unasked_runs k old.probing step.0 step.1)) step.2
  lost_spent old new moment (lost.Suspect change) step =
      subst (λ (s : ProbeState). IsSpent k s) (sym (ap probing_of step.3.new_is ∙ put_in_probing (at_moment old moment) change))
      (omega (arith, unasked_runs k old.probing step.0 step.1), refl)

  -- it is stale
  lost_stale : (old new : Node H) (moment : ℕ) (result : Result NodeLost NodeError) → unasked_target old.probing k ≡ None → LostStep old k moment result new → result ≡ Err error.StaleProbe
  lost_stale old new moment (Ok (lost.Ask helpers)) none step = let both : None ≡ Some step.0 = sym none ∙ step.1 in cc
  lost_stale old new moment (Ok (lost.Suspect change)) none step = let both : None ≡ Some step.0 = sym none ∙ step.1 in cc
  lost_stale old new moment (Err error.StaleProbe) none step = refl
  lost_stale old new moment (Err error.Memory) none step = let both : None ≡ Some step.0 = sym none ∙ step.1 in cc
  lost_stale old new moment (Err other) none step = elim step [ ]

  answer_stale : (old new : Node H) (moment : ℕ) (answer : Answer H) → unasked_target old.probing k ≡ None → CallStep hash_of old (OfEvent (event.Lost k moment)) answer new
      → answer ≡ WithReply (reply.Lost (Err error.StaleProbe))
  answer_stale old new moment (WithReply (reply.Lost result)) none step =
      ap (λ (x : Result NodeLost NodeError). WithReply (reply.Lost x)) (lost_stale old new moment result none step)
  answer_stale old new moment answer none step = elim step [ ]

  loses_no_more : (old : Node H) (e : CallEntry H) → IsSpent k old.probing → CallStep hash_of old e.call e.answer e.after → LosesNoMore k e
  loses_no_more old e spent step moment is =
      answer_stale old e.after moment e.answer spent.1 (subst (λ (c : Call). CallStep hash_of old c e.answer e.after) is step)

  -- no later call says so
  later : (old last : Node H) (history : History H) → IsSpent k old.probing → LegalHistory hash_of old history last
      → All (λ (t : Turn (CallEntry H)). LosesNoMore k t.entry) history
  later old last [] spent legal = All-nil (λ (t : Turn (CallEntry H)). LosesNoMore k t.entry)
  later old last (t ∷ ts) spent legal =
      All-cons (λ (t : Turn (CallEntry H)). LosesNoMore k t.entry) t ts (loses_no_more old t.entry spent legal.0)
      (later t.entry.after last ts (call_keeps old t.entry.after t.entry.call t.entry.answer legal.0 spent) legal.1)

module _ {H : Type 0} (hash_of : H → List ℕ → ℕ) where
  -- a legal history is legal from any call on
  legal_rest : (opening last : Node H) (before rest : History H) → LegalHistory hash_of opening (before ++ rest) last → (mid : Node H) × LegalHistory hash_of mid rest last
  legal_rest opening last [] rest legal = (opening, legal)
  legal_rest opening last (t ∷ ts) rest legal = legal_rest t.entry.after last ts rest legal.1

  pub losses_are_taken_once : LossesAreTakenOnce hash_of
  losses_are_taken_once opening after last before history pass number moment loss legal =
      let from = legal_rest opening last before (turn pass (entry_of (OfEvent (event.Lost number moment)) (WithReply (reply.Lost (Ok loss))) after) ∷ history) legal in
      later hash_of number after last history (lost_spent hash_of number from.0 after moment loss from.1.0) from.1.1
