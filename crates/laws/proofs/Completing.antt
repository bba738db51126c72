-- Picks of 2n - 1 rounds hold each member, and a round that began a probe ends with its target.
use Rattle.std.proofs.Common.{◌≡◌, ◌⊎◌, ◌≤◌, ◌-◌, ◌*◌, ℕ, Bool, true, false, cond, eqb, length, List, [], ◌∷◌, ◌++◌, Option, Some, None, Ok, Err, Result, refl, sym, ◌∙◌, ap, subst, inl, inr, map, filter, take, arith, Contains, append-nil, append_assoc, zero, suc}
use Rattle.std.specs.Prelude.{filter_map, is_none}
use Rattle.std.specs.List.{cons_option, list_any}
use Rattle.std.proofs.lemmas.Bool.{eq-eqb}
use Rattle.std.proofs.lemmas.List.{length-map}
use Rattle.std.proofs.lemmas.List.Elements.{Contains-append_left}
use Rattle.change_core.specs.declared.addresses.Address.{Address}
use Rattle.change_core.specs.declared.changes.Change.{Change}
use Rattle.change_core.specs.declared.changes.Sourced.{Sourced}
use Rattle.change_core.specs.Ascending.{In}
use Rattle.change_core.proofs.Order.{in_append_left, in_append_right}
use Rattle.detector_core.specs.declared.asked.AskedHelper.{AskedHelper}
use Rattle.detector_core.specs.declared.asked.Outcome.TheVariants as outcome
use Rattle.detector_core.specs.declared.asked.Said.{Said}
use Rattle.detector_core.specs.declared.asked.Said.TheVariants as said
use Rattle.detector_core.specs.declared.errors.DetectorError.TheVariants as refusals
use Rattle.detector_core.specs.Helpers.{missed, noted, outcome_after, verdict, waits}
use Rattle.detector_core.specs.declared.prober.Probe.{Probe}
use Rattle.detector_core.specs.declared.prober.Running.{Running}
use Rattle.detector_core.specs.Picks.{Picked, ArePicks, IsPick, targets_of}
use Rattle.detector_core.specs.Probing.{OpenedProbe, ProbeState, would_say}
use Rattle.detector_core.proofs.ProbingLaws.{all_picked}
use Rattle.message_core.specs.declared.messages.Message.{Message}
use Rattle.message_core.specs.declared.messages.Content.{Content}
use Rattle.message_core.specs.declared.messages.Content.TheVariants as content
use Rattle.node_core.specs.declared.errors.NodeError.{NodeError}
use Rattle.node_core.specs.declared.errors.NodeError.TheVariants as error
use Rattle.node_core.specs.declared.events.Event.{Event}
use Rattle.node_core.specs.declared.events.Event.TheVariants as event
use Rattle.node_core.specs.declared.events.NodeLost.TheVariants as lost
use Rattle.node_core.specs.declared.events.NodeOutcome.TheVariants as answered
use Rattle.node_core.specs.declared.events.Received.{Received}
use Rattle.node_core.specs.declared.events.Received.TheVariants as received
use Rattle.node_core.specs.declared.events.Reply.{Reply}
use Rattle.node_core.specs.declared.events.Reply.TheVariants as reply
use Rattle.node_core.specs.declared.events.Stopped.{Stopped}
use Rattle.node_core.specs.declared.events.Taken.{Taken}
use Rattle.node_core.specs.Calls.{Call, OfEvent, OfView, Answer, WithReply, WithView, CallStep}
use Rattle.node_core.specs.Node.{Node, at_moment, pingable}
use Rattle.node_core.specs.Probes.{put_in, ended}
use Rattle.node_core.specs.Receiving.{AnswerStep, ReceiveStep, MakeStep}
use Rattle.node_core.specs.Step.{NodeStep}
use Rattle.node_core.specs.Taking.{TakeStep, alteration, altered_by, took, took_all}
use Rattle.turn_lock.specs.declared.kept.Turn.{Turn}
use Rattle.turn_lock.specs.History.{entries_of}
use Rattle.locked_node.specs.History.{CallEntry, History, LegalHistory}
use Rattle.peer_core.specs.declared.errors.ClusterError.{ClusterError}
use Rattle.peer_core.specs.declared.rounds.Round.{Round}
use Rattle.peer_core.specs.declared.rounds.Round.TheVariants.{Suspected, Inconclusive}
use Rattle.turn_lock.specs.Passes as lock
use Rattle.turn_lock.proofs.Histories.{entries_append, grown_entries}
use Rattle.locked_node.specs.declared.node.LockedNode.{LockedNode}
use Rattle.locked_node.specs.Passes.{NodePass, Made, opening_of}
use Rattle.locked_node.proofs.Histories.{histories_keep_it, made_in_turn}
use Rattle.peer_core.specs.Acts.{Act, acts_of, did}
use Rattle.peer_core.specs.Links.{MayAnswer, IsAckOf}
use Rattle.peer_core.specs.CorrectionProvenance.{CorrectionRestsOn, RestsBehind, probed_by}
use Rattle.peer_core.specs.Provenance.{EachRests, last_of, later_of, begun_by, shown_by, unasked, InHand, NoneBegun, IsReached, RestsOn, AllRest, EndedBy, Ended}
use Rattle.peer_core.specs.Rounds.{IsRound}
use Rattle.peer_core.proofs.Acts.{made_none}
use Rattle.peer_core.proofs.CorrectionRests.{corrections_rest}
use Rattle.peer_core.proofs.Rests.{rounds_rest}
use Rattle.laws.specs.Completeness.{BeginsNone, GossipRound, ProbesAlone, IsEitherRound, IsNotReached, MembersAreProbed, calls_in, PassesProbe, RoundsMade}
use Rattle.laws.proofs.Sharing.{In-mapped, In-from_mapped}

-- lists

later-none : {A : Type 0} (o : Option A) → later_of o None ≡ o
later-none None = refl
later-none (Some x) = refl

later-later : {A : Type 0} (o p q : Option A) → later_of (later_of o p) q ≡ later_of o (later_of p q)
later-later None p q = refl
later-later (Some x) p q = refl

Contains-from_In : {K : Type 0} (x : K) (xs : List K) → In x xs → Contains xs x
Contains-from_In x [] h = absurd h
Contains-from_In x (y ∷ ys) (inl e) = (0, omega arith, sym e)
Contains-from_In x (y ∷ ys) (inr h) = let r = Contains-from_In x ys h in (suc r.0, omega (arith, r.1), r.2)

In-from_Contains : (x : ℕ) (xs : List ℕ) → Contains xs x → In x xs
In-from_Contains x [] (k, within, is) = absurd (omega (arith, within))
In-from_Contains x (y ∷ ys) (zero, within, is) = inl (sym is)
In-from_Contains x (y ∷ ys) (suc k, within, is) = inr (In-from_Contains x ys (k, omega (arith, within), is))

In-cons_option : {A : Type 0} (o : Option A) (x : A) (xs : List A) → In x xs → In x (cons_option o xs)
In-cons_option None x xs h = h
In-cons_option (Some y) x xs h = inr h

append-cons_option : {A : Type 0} (o : Option A) (xs ys : List A) → cons_option o xs ++ ys ≡ cons_option o (xs ++ ys)
append-cons_option None xs ys = refl
append-cons_option (Some x) xs ys = refl

filter_map-both : {A B : Type 0} (f : A → Option B) (xs ys : List A) → filter_map f (xs ++ ys) ≡ filter_map f xs ++ filter_map f ys
filter_map-both f [] ys = refl
filter_map-both f (x ∷ xs) ys = ap (cons_option (f x)) (filter_map-both f xs ys) ∙ sym (append-cons_option (f x) (filter_map f xs) (filter_map f ys))

map-both : {A B : Type 0} (f : A → B) (xs ys : List A) → map f (xs ++ ys) ≡ map f xs ++ map f ys
map-both f [] ys = refl
map-both f (x ∷ xs) ys = ap (λ l. f x ∷ l) (map-both f xs ys)

module _ {H : Type 0} where
  last-snoc : {A : Type 0} (f : Act H → Option A) (xs : List (Act H)) (y : Act H) → last_of f (xs ++ y ∷ []) ≡ later_of (f y) (last_of f xs)
  last-snoc f [] y = sym (later-none (f y))
  last-snoc f (x ∷ xs) y = ap (λ o. later_of o (f x)) (last-snoc f xs y) ∙ later-later (f y) (last_of f xs) (f x)

  -- the probes that acts begin
  abbrev begun : List (Act H) → List Probe
  begun acts = filter_map begun_by acts

  in_begun : (xs : List (Act H)) (p : Probe) → last_of begun_by xs ≡ Some p → In p (begun xs)
  in_begun [] p is = cc
  in_begun (x ∷ xs) p is = by_last (last_of begun_by xs) refl is (λ q k. in_begun xs q k)
    where
      by_act : (o : Option Probe) → o ≡ Some p → In p (cons_option o (begun xs))
      by_act None e = cc
      by_act (Some q) e = inl (let same : q ≡ p = cc in sym same)

      by_last : (o : Option Probe) → last_of begun_by xs ≡ o → later_of o (begun_by x) ≡ Some p → ((q : Probe) → last_of begun_by xs ≡ Some q → In q (begun xs)) → In p (cons_option (begun_by x) (begun xs))
      by_last None e k again = by_act (begun_by x) k
      by_last (Some q) e k again = In-cons_option (begun_by x) p (begun xs) (again p (e ∙ k))

  -- a probe that is begun is shown
  begun_shown : (act : Act H) (p : Probe) → begun_by act ≡ Some p → shown_by act ≡ Some (unasked p.number p.target)
  begun_shown (OfEvent event.Probe, WithReply (reply.Probe (Ok (Some q)))) p is = let same : q ≡ p = cc in ap (λ (x : Probe). Some (unasked x.number x.target)) same
  begun_shown (OfEvent event.Probe, WithReply (reply.Probe (Ok None))) p is = cc
  begun_shown other p is = cc

  -- only a call that asks for a probe begins one
  begun_call : (act : Act H) (p : Probe) → begun_by act ≡ Some p → act.0 ≡ OfEvent event.Probe
  begun_call (OfEvent event.Probe, WithReply (reply.Probe (Ok (Some q)))) p is = refl
  begun_call (OfEvent event.Probe, WithReply (reply.Probe (Ok None))) p is = cc
  begun_call other p is = cc

abbrev AtMostOne : List Probe → Type 0
AtMostOne ps = (ps ≡ []) ⊎ ((p : Probe) × (ps ≡ p ∷ []))

module _ {H : Type 0} (Came : MayAnswer) (now : ℕ) where
  begun_rests : (before : List (Act H)) (act : Act H) (p : Probe) → begun_by act ≡ Some p → RestsOn Came now before act → NoneBegun before
  begun_rests before (OfEvent event.Probe, WithReply (reply.Probe (Ok probe))) p is rests = rests
  begun_rests before other p is rests = cc

  shown_rests : (before : List (Act H)) (act : Act H) (r : Running) → shown_by act ≡ Some r → RestsOn Came now before act → NoneBegun before
  shown_rests before (OfEvent event.Probe, WithReply (reply.Probe (Ok (Some probe)))) r is rests = rests
  shown_rests before (OfEvent event.Running, WithReply (reply.Running found)) r is rests = rests
  shown_rests before other r is rests = cc

  -- once a probe is begun, no other is
  none_after : (before acts : List (Act H)) (p : Probe) → last_of begun_by before ≡ Some p → AllRest Came now before acts → begun acts ≡ []
  none_after before [] p is rests = refl
  none_after before (act ∷ acts) p is rests =
      by_act (begun_by act) refl (λ e. none_after (before ++ act ∷ []) acts p (last-snoc begun_by before act ∙ ap (λ o. later_of o (last_of begun_by before)) e ∙ is) rests.1)
    where
      by_act : (o : Option Probe) → begun_by act ≡ o → (begun_by act ≡ None → begun acts ≡ []) → cons_option o (begun acts) ≡ []
      by_act None e again = again e
      by_act (Some q) e again = let no : None ≡ Some p = sym (begun_rests before act q e rests.0) ∙ is in cc

  at_most_one : (before acts : List (Act H)) → NoneBegun before → AllRest Came now before acts → AtMostOne (begun acts)
  at_most_one before [] none rests = inl refl
  at_most_one before (act ∷ acts) none rests =
      by_act (begun_by act) refl (λ e. at_most_one (before ++ act ∷ []) acts (last-snoc begun_by before act ∙ ap (λ o. later_of o (last_of begun_by before)) e ∙ none) rests.1)
    where
      by_act : (o : Option Probe) → begun_by act ≡ o → (begun_by act ≡ None → AtMostOne (begun acts)) → AtMostOne (cons_option o (begun acts))
      by_act None e again = again e
      by_act (Some q) e again =
          inr (q, ap (λ (l : List Probe). q ∷ l) (none_after (before ++ act ∷ []) acts q (last-snoc begun_by before act ∙ ap (λ o. later_of o (last_of begun_by before)) e) rests.1))

  just_one : (acts : List (Act H)) (p : Probe) → AllRest Came now [] acts → In p (begun acts) → begun acts ≡ p ∷ []
  just_one acts p rests h = by_case (at_most_one [] acts refl rests)
    where
      by_case : AtMostOne (begun acts) → begun acts ≡ p ∷ []
      by_case (inl e) = absurd (subst (λ (l : List Probe). In p l) e h)
      by_case (inr (q, e)) =
          elim (subst (λ (l : List Probe). In p l) e h) [ inl same ↦ e ∙ ap (λ (x : Probe). x ∷ []) (sym same) | inr k ↦ absurd k ]

  -- what is in hand is the probe that was begun
  abbrev IsInHand : List (Act H) → Type 0
  IsInHand acts = (p : Probe) → last_of begun_by acts ≡ Some p → last_of shown_by acts ≡ Some (unasked p.number p.target)

  in_hand : (before acts : List (Act H)) → IsInHand before → AllRest Came now before acts → IsInHand (before ++ acts)
  in_hand before [] held rests = subst (λ (l : List (Act H)). IsInHand l) (sym (append-nil before)) held
  in_hand before (act ∷ acts) held rests =
      subst (λ (l : List (Act H)). IsInHand l) (append_assoc before (act ∷ []) acts)
      (in_hand (before ++ act ∷ []) acts (λ p is. by_act p (begun_by act) refl (sym (last-snoc begun_by before act) ∙ is)) rests.1)
    where
      shown_none : (p : Probe) → last_of begun_by before ≡ Some p → (o : Option Running) → shown_by act ≡ o → later_of o (last_of shown_by before) ≡ Some (unasked p.number p.target)
      shown_none p is None e = held p is
      shown_none p is (Some r) e = let no : None ≡ Some p = sym (shown_rests before act r e rests.0) ∙ is in cc

      by_act : (p : Probe) (o : Option Probe) → begun_by act ≡ o → later_of (begun_by act) (last_of begun_by before) ≡ Some p
          → last_of shown_by (before ++ act ∷ []) ≡ Some (unasked p.number p.target)
      by_act p None e is =
          last-snoc shown_by before act ∙ shown_none p (sym (ap (λ o. later_of o (last_of begun_by before)) e) ∙ is) (shown_by act) refl
      by_act p (Some q) e is =
          let both : Some q ≡ Some p = sym (ap (λ o. later_of o (last_of begun_by before)) e) ∙ is in
          last-snoc shown_by before act ∙ ap (λ o. later_of o (last_of shown_by before)) (begun_shown act p (e ∙ both))

  last_rests : (before prefix : List (Act H)) (act : Act H) → AllRest Came now before (prefix ++ act ∷ []) → RestsOn Came now (before ++ prefix) act
  last_rests before [] act rests = subst (λ (l : List (Act H)). RestsOn Came now l act) (sym (append-nil before)) rests.0
  last_rests before (x ∷ xs) act rests =
      subst (λ (l : List (Act H)). RestsOn Came now l act) (append_assoc before (x ∷ []) xs) (last_rests (before ++ x ∷ []) xs act rests.1)

  prefix_rests : (before prefix rest : List (Act H)) → AllRest Came now before (prefix ++ rest) → AllRest Came now before prefix
  prefix_rests before [] rest rests = tt
  prefix_rests before (x ∷ xs) rest rests = (rests.0, prefix_rests (before ++ x ∷ []) xs rest rests.1)

module _ {H : Type 0} where
  abbrev probing_of : Node H → ProbeState
  probing_of node = node.probing

  altered_probing : (node : Node H) (o : Option Sourced) → probing_of (altered_by node o) ≡ probing_of node
  altered_probing node None = refl
  altered_probing node (Some s) = refl

  took_probing : (node : Node H) (ss : List Sourced) → probing_of (took_all node ss) ≡ probing_of node
  took_probing node [] = refl
  took_probing node (s ∷ ss) = took_probing (took node s) ss ∙ altered_probing node (alteration node s)

  put_in_probing : (node : Node H) (change : Option Change) → probing_of (ended (put_in node change)) ≡ record node.probing { running = None }
  put_in_probing node None = refl
  put_in_probing node (Some c) = refl

  take_probing : (old new : Node H) (given : List Sourced) (moment : ℕ) (result : Result Taken Stopped) → TakeStep old given moment result new → probing_of new ≡ probing_of old
  take_probing old new given moment (Ok taken) step = ap probing_of step.new_is ∙ took_probing (at_moment old moment) given
  take_probing old new given moment (Err stopped) step = ap probing_of step.new_is ∙ took_probing (at_moment old moment) (take stopped.taken given)

  answer_probing : (old mid new : Node H) (source : ℕ) (b : Content) (answer : Message) → AnswerStep mid source b answer new → probing_of mid ≡ probing_of old → probing_of new ≡ probing_of old
  answer_probing old mid new source (content.Join news) answer step e = ap probing_of step.1 ∙ e
  answer_probing old mid new source (content.Ping news) answer step e = ap probing_of step.1 ∙ e
  answer_probing old mid new source other answer step e = elim step [ ]

  receive_probing : (old new : Node H) (message : Message) (moment : ℕ) (r : Received) → ReceiveStep old message moment r new → probing_of new ≡ probing_of old
  receive_probing old new message moment (received.Done taken) step = take_probing old new _ moment (Ok taken) step.2
  receive_probing old new message moment (received.Answer taken answer) step =
      answer_probing old step.0 new message.source message.content answer step.2 (take_probing old step.0 _ moment (Ok taken) step.1)
  receive_probing old new message moment (received.NoAnswer taken) step = take_probing old new _ moment (Ok taken) step.1
  receive_probing old new message moment (received.Stopped stopped) step = take_probing old new _ moment (Err stopped) step.1
  receive_probing old new message moment received.NotGossip step = ap probing_of step.1

  make_probing : (old new after : Node H) (m : Message) (result : Result Message NodeError) → MakeStep old m after result new → probing_of after ≡ probing_of old → probing_of new ≡ probing_of old
  make_probing old new after m (Ok made) step e = ap probing_of step.1 ∙ e
  make_probing old new after m (Err error.Memory) step e = ap probing_of step
  make_probing old new after m (Err other) step e = elim step [ ]

module _ {H : Type 0} (hash_of : H → List ℕ → ℕ) where
  -- a call picks a target, or leaves the rest of the order
  abbrev PicksOrStays : Node H → Call → Answer H → Node H → Type 0
  PicksOrStays old call answer new =
      ((pick : Probe) × (call ≡ OfEvent event.Probe) × (begun_by (call, answer) ≡ Some pick) × IsPick (pingable old) old.probing pick new.probing)
      ⊎ ((begun_by (call, answer) ≡ None) × (new.probing.rest ≡ old.probing.rest))

  by_step : (old new : Node H) (e : Event) (r : Reply) → NodeStep hash_of old e r new → PicksOrStays old (OfEvent e) (WithReply r) new
  by_step old new (event.Take given moment) (reply.Take result) step = inr (refl, ap (λ (s : ProbeState). s.rest) (take_probing old new given moment result step))
  by_step old new (event.Receive message moment) (reply.Receive r) step = inr (refl, ap (λ (s : ProbeState). s.rest) (receive_probing old new message moment r step))
  by_step old new event.JoinMessage (reply.JoinMessage result) step = inr (refl, ap (λ (s : ProbeState). s.rest) (make_probing old new _ _ result step refl))
  by_step old new (event.PingTo target) (reply.PingTo result) step = inr (refl, ap (λ (s : ProbeState). s.rest) (make_probing old new _ _ result step refl))
  by_step old new (event.PingReqTo helper target) (reply.PingReqTo result) step = inr (refl, ap (λ (s : ProbeState). s.rest) (make_probing old new _ _ result step refl))
  by_step old new (event.PingReqAckTo requester target reached) (reply.PingReqAckTo result) step = inr (refl, ap (λ (s : ProbeState). s.rest) (make_probing old new _ _ result step refl))
  by_step old new event.Leave (reply.Leave (Ok change)) step = inr (refl, ap (λ (s : ProbeState). s.rest) (ap probing_of step.2))
  by_step old new event.Leave (reply.Leave (Err error.AlreadyLeft)) step = inr (refl, ap (λ (s : ProbeState). s.rest) (ap probing_of step.1))
  by_step old new event.Leave (reply.Leave (Err error.Memory)) step = inr (refl, ap (λ (s : ProbeState). s.rest) (ap probing_of step.1))
  by_step old new event.Rejoin (reply.Rejoin (Ok change)) step = inr (refl, ap (λ (s : ProbeState). s.rest) (ap probing_of step.3))
  by_step old new event.Rejoin (reply.Rejoin (Err error.NotLeft)) step = inr (refl, ap (λ (s : ProbeState). s.rest) (ap probing_of step.1))
  by_step old new event.Rejoin (reply.Rejoin (Err error.Exhausted)) step = inr (refl, ap (λ (s : ProbeState). s.rest) (ap probing_of step.2))
  by_step old new event.Rejoin (reply.Rejoin (Err error.Memory)) step = inr (refl, ap (λ (s : ProbeState). s.rest) (ap probing_of step.2))
  by_step old new (event.Expire moment) (reply.Expire (Ok None)) step = inr (refl, ap (λ (s : ProbeState). s.rest) (ap probing_of step.1))
  by_step old new (event.Expire moment) (reply.Expire (Ok (Some change))) step = inr (refl, ap (λ (s : ProbeState). s.rest) (ap probing_of step.3))
  by_step old new (event.Expire moment) (reply.Expire (Err error.Memory)) step = inr (refl, ap (λ (s : ProbeState). s.rest) (ap probing_of step.1))
  by_step old new event.Probe (reply.Probe (Ok (Some pick))) step = inl (pick, refl, refl, step.1)
  by_step old new event.Probe (reply.Probe (Ok None)) step = inr (refl, ap (λ (s : ProbeState). s.rest) (ap probing_of step.3))
  by_step old new event.Probe (reply.Probe (Err error.Busy)) step = inr (refl, ap (λ (s : ProbeState). s.rest) (ap probing_of step.1))
  by_step old new event.Probe (reply.Probe (Err error.Spent)) step = inr (refl, ap (λ (s : ProbeState). s.rest) (ap probing_of step.2))
  by_step old new event.Probe (reply.Probe (Err error.Memory)) step = inr (refl, ap (λ (s : ProbeState). s.rest) (ap probing_of step.3))
  by_step old new (event.Acked number) (reply.Acked (Ok done)) step = inr (refl, ap (λ (s : ProbeState). s.rest) (ap probing_of step.1))
  by_step old new (event.Acked number) (reply.Acked (Err error.StaleProbe)) step = inr (refl, ap (λ (s : ProbeState). s.rest) (ap probing_of step.1))
  by_step old new (event.Lost number moment) (reply.Lost (Ok (lost.Ask helpers))) step = inr (refl, ap (λ (s : ProbeState). s.rest) step.2.left)
  by_step old new (event.Lost number moment) (reply.Lost (Ok (lost.Suspect change))) step = inr (refl, ap (λ (s : ProbeState). s.rest) (ap probing_of step.3.new_is ∙ put_in_probing (at_moment old moment) change))
  by_step old new (event.Lost number moment) (reply.Lost (Err error.StaleProbe)) step = inr (refl, ap (λ (s : ProbeState). s.rest) (ap probing_of step.1))
  by_step old new (event.Lost number moment) (reply.Lost (Err error.Memory)) step = inr (refl, ap (λ (s : ProbeState). s.rest) (ap probing_of step.3))
  by_step old new (event.HelperSaid number helper said moment) (reply.HelperSaid (Ok answered.Waiting)) step = inr (refl, ap (λ (s : ProbeState). s.rest) (ap probing_of step.1))
  by_step old new (event.HelperSaid number helper said moment) (reply.HelperSaid (Ok answered.Reached)) step = inr (refl, ap (λ (s : ProbeState). s.rest) (ap probing_of step.1))
  by_step old new (event.HelperSaid number helper said moment) (reply.HelperSaid (Ok (answered.Suspect change))) step = inr (refl, ap (λ (s : ProbeState). s.rest) (ap probing_of step.3.new_is ∙ put_in_probing (at_moment old moment) change))
  by_step old new (event.HelperSaid number helper said moment) (reply.HelperSaid (Ok answered.Inconclusive)) step = inr (refl, ap (λ (s : ProbeState). s.rest) (ap probing_of step.1))
  by_step old new (event.HelperSaid number helper said moment) (reply.HelperSaid (Err error.StaleProbe)) step = inr (refl, ap (λ (s : ProbeState). s.rest) (ap probing_of step.1))
  by_step old new (event.HelperSaid number helper said moment) (reply.HelperSaid (Err error.NotAsked)) step = inr (refl, ap (λ (s : ProbeState). s.rest) (ap probing_of step.1))
  by_step old new (event.HelperSaid number helper said moment) (reply.HelperSaid (Err error.Memory)) step = inr (refl, ap (λ (s : ProbeState). s.rest) (ap probing_of step.4))
  by_step old new event.Own (reply.Own change) step = inr (refl, ap (λ (s : ProbeState). s.rest) (ap probing_of step.1))
  by_step old new (event.Member a) (reply.Member entry) step = inr (refl, ap (λ (s : ProbeState). s.rest) (ap probing_of step.1))
  by_step old new event.Len (reply.Len n) step = inr (refl, ap (λ (s : ProbeState). s.rest) (ap probing_of step.1))
  by_step old new (event.Owner key) (reply.Owner owner) step = inr (refl, ap (λ (s : ProbeState). s.rest) (ap probing_of step.1))
  by_step old new (event.Owners key n) (reply.Owners result) step = inr (refl, ap (λ (s : ProbeState). s.rest) (ap probing_of step.1))
  by_step old new event.Members (reply.Members result) step = inr (refl, ap (λ (s : ProbeState). s.rest) (ap probing_of step.1))
  by_step old new event.DigestText (reply.DigestText result) step = inr (refl, ap (λ (s : ProbeState). s.rest) (ap probing_of step.1))
  by_step old new event.Digest (reply.Digest result) step = inr (refl, ap (λ (s : ProbeState). s.rest) (ap probing_of step.1))
  by_step old new event.Running (reply.Running running) step = inr (refl, ap (λ (s : ProbeState). s.rest) (ap probing_of step.1))
  by_step old new e r step = elim step [ ]

  by_call : (old new : Node H) (call : Call) (answer : Answer H) → CallStep hash_of old call answer new → PicksOrStays old call answer new
  by_call old new (OfEvent e) (WithReply r) step = by_step old new e r step
  by_call old new OfView (WithView result) step = inr (refl, ap (λ (s : ProbeState). s.rest) (ap probing_of step.1))
  by_call old new call answer step = elim step [ ]

  module _ (n : ℕ) (members : List ℕ) where
    -- the entries of the pass after a turn
    own_turn : (t : Turn (CallEntry H)) (ts : History H) → t.pass ≡ n → entries_of n (t ∷ ts) ≡ t.entry ∷ entries_of n ts
    own_turn t ts own =
        let rest : History H = filter (λ (u : Turn (CallEntry H)). eqb n u.pass) ts in
        ap (λ b. map (λ (u : Turn (CallEntry H)). u.entry) (cond b (t ∷ rest) rest)) (eq-eqb n t.pass (sym own))

    none_begun : (t : Turn (CallEntry H)) (ts : History H) → begun_by (t.entry.call, t.entry.answer) ≡ None
        → begun (acts_of (entries_of n (t ∷ ts))) ≡ begun (acts_of (entries_of n ts))
    none_begun t ts none = by_pass (eqb n t.pass)
      where
        by_pass : (b : Bool) → begun (acts_of (map (λ (u : Turn (CallEntry H)). u.entry) (cond b (t ∷ filter (λ (u : Turn (CallEntry H)). eqb n u.pass) ts) (filter (λ (u : Turn (CallEntry H)). eqb n u.pass) ts))))
            ≡ begun (acts_of (entries_of n ts))
        by_pass true = ap (λ o. cons_option o (begun (acts_of (entries_of n ts)))) none
        by_pass false = refl

    -- the probes that the pass begins are picks, one after another
    abbrev PicksOf : List ℕ → History H → Type 0
    PicksOf rest ts = (picks : List Picked) × ArePicks members rest picks × (map (λ (p : Picked). p.probe) picks ≡ begun (acts_of (entries_of n ts)))

    picks_of : (old last : Node H) (ts : History H) → LegalHistory hash_of old ts last → ProbesAlone n members old ts → PicksOf old.probing.rest ts
    picks_of old last [] legal alone = ([], tt, refl)
    picks_of old last (t ∷ ts) legal alone =
        by_turn (by_call old t.entry.after t.entry.call t.entry.answer legal.0) (picks_of t.entry.after last ts legal.1 alone.1)
      where
        by_turn : PicksOrStays old t.entry.call t.entry.answer t.entry.after → PicksOf t.entry.after.probing.rest ts → PicksOf old.probing.rest (t ∷ ts)
        by_turn (inl (pick, is, starts, picked)) (picks, are, same) =
            let here = alone.0 is in (
              record { before = old.probing; probe = pick; after = t.entry.after.probing } ∷ picks,
              (refl, subst (λ (l : List ℕ). IsPick l old.probing pick t.entry.after.probing) here.1 picked, are),
              ap (λ (l : List Probe). pick ∷ l) same ∙ sym (ap (λ (es : List (CallEntry H)). begun (acts_of es)) (own_turn t ts here.0)
                  ∙ ap (λ o. cons_option o (begun (acts_of (entries_of n ts)))) starts),
            )
        by_turn (inr (none, stays)) (picks, are, same) =
            (picks, subst (λ (l : List ℕ). ArePicks members l picks) stays are, same ∙ sym (none_begun t ts none))

    -- where the pass finds no member to probe, there is none
    nobody : (old last : Node H) (ts : History H) (e : CallEntry H) → LegalHistory hash_of old ts last → ProbesAlone n members old ts → In e (entries_of n ts)
        → e.call ≡ OfEvent event.Probe → e.answer ≡ WithReply (reply.Probe (Ok None)) → members ≡ []
    nobody old last [] e legal alone h asked answers = absurd h
    nobody old last (t ∷ ts) e legal alone h asked answers = by_pass (eqb n t.pass) h (λ k. nobody t.entry.after last ts e legal.1 alone.1 k asked answers)
      where
        here : e ≡ t.entry → members ≡ []
        here is =
            let called : t.entry.call ≡ OfEvent event.Probe = ap (λ (x : CallEntry H). x.call) (sym is) ∙ asked in
            let answered : t.entry.answer ≡ WithReply (reply.Probe (Ok None)) = ap (λ (x : CallEntry H). x.answer) (sym is) ∙ answers in
            let step : CallStep hash_of old (OfEvent event.Probe) (WithReply (reply.Probe (Ok None))) t.entry.after =
            subst (λ (a : Answer H). CallStep hash_of old (OfEvent event.Probe) a t.entry.after) answered
            (subst (λ (c : Call). CallStep hash_of old c t.entry.answer t.entry.after) called legal.0) in
            sym (alone.0 called).1 ∙ step.2

        by_pass : (b : Bool) → In e (map (λ (u : Turn (CallEntry H)). u.entry) (cond b (t ∷ filter (λ (u : Turn (CallEntry H)). eqb n u.pass) ts) (filter (λ (u : Turn (CallEntry H)). eqb n u.pass) ts)))
            → (In e (entries_of n ts) → members ≡ []) → members ≡ []
        by_pass true (inl is) again = here is
        by_pass true (inr k) again = again k
        by_pass false k again = again k

-- a helper's word that ends a probe as reached

verdict_not_reached : (asked : List AskedHelper) → verdict asked ≡ outcome.Reached → ⊥
verdict_not_reached asked is = by_tests (list_any (λ (q : AskedHelper). is_none q.said) asked) (list_any missed asked) is
  where
    by_tests : (x y : Bool) → cond x outcome.Waiting (cond y outcome.Suspect outcome.Inconclusive) ≡ outcome.Reached → ⊥
    by_tests true y e = cc
    by_tests false true e = cc
    by_tests false false e = cc

word_reached : (asked : List AskedHelper) (helper : ℕ) (s : Said) → outcome_after asked helper s ≡ outcome.Reached → s ≡ said.Reached
word_reached asked helper said.Reached e = refl
word_reached asked helper said.NotReached e = absurd (verdict_not_reached (map (noted helper said.NotReached) asked) e)
word_reached asked helper said.Failed e = absurd (verdict_not_reached (map (noted helper said.Failed) asked) e)

said_reached : (st : ProbeState) (number helper : ℕ) (s : Said) → would_say st number helper s ≡ Ok outcome.Reached → s ≡ said.Reached
said_reached st number helper s e = by_running st.running e
  where
    by_tests : (asked : List AskedHelper) (x y : Bool)
        → cond x (cond y (Ok (outcome_after asked helper s)) (Err refusals.NotAsked)) (Err refusals.StaleProbe) ≡ Ok outcome.Reached → s ≡ said.Reached
    by_tests asked true true e = word_reached asked helper s cc
    by_tests asked true false e = cc
    by_tests asked false y e = cc

    by_running : (o : Option OpenedProbe) → would_say (record st { running = o }) number helper s ≡ Ok outcome.Reached → s ≡ said.Reached
    by_running None e = cc
    by_running (Some a) e = by_tests a.asked (eqb number st.last) (waits a.asked helper) e

module _ {H : Type 0} (hash_of : H → List ℕ → ℕ) (n : ℕ) where
  -- an entry of a legal history is a call of some node
  called_in : (old last : Node H) (ts : History H) (e : CallEntry H) → LegalHistory hash_of old ts last → In e (entries_of n ts)
      → (before : Node H) × CallStep hash_of before e.call e.answer e.after
  called_in old last [] e legal h = absurd h
  called_in old last (t ∷ ts) e legal h = by_pass (eqb n t.pass) h (λ k. called_in t.entry.after last ts e legal.1 k)
    where
      by_pass : (b : Bool) → In e (map (λ (u : Turn (CallEntry H)). u.entry) (cond b (t ∷ filter (λ (u : Turn (CallEntry H)). eqb n u.pass) ts) (filter (λ (u : Turn (CallEntry H)). eqb n u.pass) ts)))
          → (In e (entries_of n ts) → (before : Node H) × CallStep hash_of before e.call e.answer e.after) → (before : Node H) × CallStep hash_of before e.call e.answer e.after
      by_pass true (inl is) again = (old, subst (λ (x : CallEntry H). CallStep hash_of old x.call x.answer x.after) (sym is) legal.0)
      by_pass true (inr k) again = again k
      by_pass false k again = again k

  word_in : (old last : Node H) (ts : History H) (e : CallEntry H) (j h t : ℕ) (s : Said) → LegalHistory hash_of old ts last → In e (entries_of n ts)
      → e.call ≡ OfEvent (event.HelperSaid j h s t) → e.answer ≡ WithReply (reply.HelperSaid (Ok answered.Reached)) → s ≡ said.Reached
  word_in old last ts e j h t s legal inside called answers =
      let c = called_in old last ts e legal inside in
      let step : CallStep hash_of c.0 (OfEvent (event.HelperSaid j h s t)) (WithReply (reply.HelperSaid (Ok answered.Reached))) e.after =
      subst (λ (x : Answer H). CallStep hash_of c.0 (OfEvent (event.HelperSaid j h s t)) x e.after) answers
      (subst (λ (x : Call). CallStep hash_of c.0 x e.answer e.after) called c.1) in
      said_reached c.0.probing j h s step.0

-- a round

module _ {H : Type 0} (Came : MayAnswer) where
  abbrev rounds_acts : GossipRound H → List (Act H)
  rounds_acts r = acts_of r.entries

  -- a correction begins no probe
  corrects_none : (now a : ℕ) (before : List (Act H)) (act : Act H) (p : Probe) → begun_by act ≡ Some p → CorrectionRestsOn Came now a before act → ⊥
  corrects_none now a before (OfEvent event.Probe, WithReply (reply.Probe (Ok probe))) p is rests = rests
  corrects_none now a before other p is rests = cc

  correction_begins_none : (now a : ℕ) (before acts : List (Act H)) → EachRests (CorrectionRestsOn Came now a) before acts → begun acts ≡ []
  correction_begins_none now a before [] rests = refl
  correction_begins_none now a before (act ∷ acts) rests = by_act (begun_by act) refl (correction_begins_none now a (before ++ act ∷ []) acts rests.1)
    where
      by_act : (o : Option Probe) → begun_by act ≡ o → begun acts ≡ [] → cons_option (begun_by act) (begun acts) ≡ []
      by_act None e again = ap (λ o. cons_option o (begun acts)) e ∙ again
      by_act (Some p) e again = absurd (corrects_none now a before act p e rests.0)

  behind_begins_none : (now : ℕ) (target : Option ℕ) (first rest : List (Act H)) → RestsBehind Came now target first rest → begun rest ≡ []
  behind_begins_none now None first rest none = ap begun none
  behind_begins_none now (Some a) first rest rests = correction_begins_none now a first rest rests

  -- The acts of a round: those of the round itself, and behind them what corrects its target.
  record Parted (r : GossipRound H) : Type 0 where
    pub first : List (Act H)
    pub rest : List (Act H)
    pub all : rounds_acts r ≡ first ++ rest
    pub made : IsRound Came r.now (Ok r.round) first
    pub none : begun rest ≡ []

  parted : (r : GossipRound H) → IsEitherRound Came r.now r.round (rounds_acts r) → Parted r
  parted r (inl is) = record { first = rounds_acts r; rest = []; all = sym (append-nil (rounds_acts r)); made = is; none = refl }
  parted r (inr is) =
      let c = corrections_rest Came r.now (Ok r.round) (rounds_acts r) is in record {
        first = c.first;
        rest = c.rest;
        all = c.all;
        made = subst (λ (x : Result Round ClusterError). IsRound Came r.now x c.first) c.same c.made;
        none = behind_begins_none r.now (probed_by c.round) c.first c.rest c.rests;
      }

  -- what is done in the round itself is done
  In-whole : (r : GossipRound H) (p : Parted r) (act : Act H) → In act p.first → In act (rounds_acts r)
  In-whole r p act h = subst (λ (l : List (Act H)). In act l) (sym p.all) (in_append_left act p.first p.rest h)

  Contains-whole : (r : GossipRound H) (p : Parted r) (act : Act H) → Contains p.first act → Contains (rounds_acts r) act
  Contains-whole r p act h = subst (λ (l : List (Act H)). Contains l act) (sym p.all) (Contains-append_left p.first p.rest act h)

  -- a round that begins a probe and ends with its target
  record ProbesOne (r : GossipRound H) : Type 0 where
    pub itself : Parted r
    pub probe : Probe
    pub only : begun (rounds_acts r) ≡ probe ∷ []
    pub prefix : List (Act H)
    pub act : Act H
    pub parts : itself.first ≡ prefix ++ act ∷ []
    pub begins : last_of begun_by prefix ≡ Some probe
    pub ends : EndedBy r.now probe.number probe.target r.round act

  -- where somebody can be probed, a round that is not refused probes somebody
  probes_one : (r : GossipRound H) → Parted r
      → ((e : CallEntry H) → In e r.entries → e.call ≡ OfEvent event.Probe → e.answer ≡ WithReply (reply.Probe (Ok None)) → ⊥) → ProbesOne r
  probes_one r p somebody = by_end (rounds_rest Came r.now (Ok r.round) p.first p.made).1
    where
      rests : AllRest Came r.now [] p.first
      rests = (rounds_rest Came r.now (Ok r.round) p.first p.made).0

      by_end : Ended r.now r.round p.first → ProbesOne r
      by_end (inl (idle, prefix, parts)) =
          let last : In (did event.Probe (reply.Probe (Ok None))) (rounds_acts r) =
          In-whole r p (did event.Probe (reply.Probe (Ok None)))
          (subst (λ (l : List (Act H)). In (did event.Probe (reply.Probe (Ok None))) l) (sym parts) (in_append_right (did event.Probe (reply.Probe (Ok None))) prefix _ (inl refl))) in
          let e = In-from_mapped (λ (x : CallEntry H). (x.call, x.answer)) (did event.Probe (reply.Probe (Ok None))) r.entries last in
          absurd (somebody e.0 e.1 (ap (λ (x : Act H). x.0) e.2) (ap (λ (x : Act H). x.1) e.2))
      by_end (inr (k, a, prefix, act, parts, begins, ends)) =
          let probe : Probe = record { number = k; target = a } in
          let inside : In probe (begun p.first) =
          subst (λ (l : List Probe). In probe l) (sym (ap begun parts ∙ filter_map-both begun_by prefix (act ∷ [])))
          (in_append_left probe (begun prefix) (begun (act ∷ [])) (in_begun prefix probe begins)) in
          let only : begun (rounds_acts r) ≡ probe ∷ [] =
          ap begun p.all ∙ filter_map-both begun_by p.first p.rest ∙ ap (λ (l : List Probe). begun p.first ++ l) p.none ∙ append-nil (begun p.first)
          ∙ just_one Came r.now p.first probe rests inside in
          record { itself = p; probe = probe; only = only; prefix = prefix; act = act; parts = parts; begins = begins; ends = ends }

  -- how such a round ends where its target is not reached
  abbrev EndsFound : GossipRound H → ℕ → Type 0
  EndsFound r a = (r.round ≡ Suspected a) ⊎ (r.round ≡ Inconclusive a)

  -- where a helper's word ends a probe as reached, it is that
  abbrev WordsAreSo : GossipRound H → Type 0
  WordsAreSo r = (e : CallEntry H) → In e r.entries → (j h t : ℕ) (s : Said) → e.call ≡ OfEvent (event.HelperSaid j h s t)
      → e.answer ≡ WithReply (reply.HelperSaid (Ok answered.Reached)) → s ≡ said.Reached

  Contains-end : (prefix : List (Act H)) (act : Act H) → Contains (prefix ++ act ∷ []) act
  Contains-end prefix act = Contains-from_In act (prefix ++ act ∷ []) (in_append_right act prefix (act ∷ []) (inl refl))

  found : (r : GossipRound H) (a : ℕ) (one : ProbesOne r) → one.probe.target ≡ a → IsNotReached a r → WordsAreSo r → EndsFound r a
  found r a one target not_reached words = by_act one.act one.parts (subst (λ (b : ℕ). EndedBy r.now one.probe.number b r.round one.act) target one.ends)
    where
      rests : AllRest Came r.now [] one.itself.first
      rests = (rounds_rest Came r.now (Ok r.round) one.itself.first one.itself.made).0

      held : last_of shown_by one.prefix ≡ Some (unasked one.probe.number one.probe.target)
      held = in_hand Came r.now [] one.prefix (λ p e. cc) (prefix_rests Came r.now [] one.prefix (one.act ∷ []) (subst (λ (l : List (Act H)). AllRest Came r.now [] l) one.parts rests)) one.probe one.begins

      no_ack : (b : Address) (j : ℕ) → InHand (unasked j b) one.prefix → IsReached Came r.now b one.prefix → ⊥
      no_ack b j in_it (q, ack, got, prefix, before, pinged, came, of_b) =
          let both : Some (unasked j b) ≡ Some (unasked one.probe.number one.probe.target) = sym in_it ∙ held in
          let running : unasked j b ≡ unasked one.probe.number one.probe.target = cc in
          let same : b ≡ one.probe.target = ap (λ (x : Running). x.target) running in
          let taken : Contains (rounds_acts r) (did (event.Receive ack r.now) (reply.Receive got)) =
          Contains-whole r one.itself (did (event.Receive ack r.now) (reply.Receive got))
          (subst (λ (l : List (Act H)). Contains l (did (event.Receive ack r.now) (reply.Receive got))) (sym one.parts)
          (Contains-append_left one.prefix (one.act ∷ []) (did (event.Receive ack r.now) (reply.Receive got))
          (subst (λ (l : List (Act H)). Contains l (did (event.Receive ack r.now) (reply.Receive got))) (sym before) (Contains-end prefix (did (event.Receive ack r.now) (reply.Receive got)))))) in
          not_reached.no_ack ack r.now got taken (subst (λ (x : ℕ). IsAckOf x ack) (same ∙ target) of_b)

      by_act : (act : Act H) → one.itself.first ≡ one.prefix ++ act ∷ [] → EndedBy r.now one.probe.number a r.round act → EndsFound r a
      by_act (OfEvent (event.Acked j), WithReply (reply.Acked (Ok u))) parts ends =
          let on = last_rests Came r.now [] one.prefix (OfEvent (event.Acked j), WithReply (reply.Acked (Ok u))) (subst (λ (l : List (Act H)). AllRest Came r.now [] l) parts rests) in
          absurd (no_ack on.0 j on.1 on.2)
      by_act (OfEvent (event.Lost j t), WithReply (reply.Lost (Ok (lost.Suspect c)))) parts ends = inl ends.2
      by_act (OfEvent (event.HelperSaid j h s t), WithReply (reply.HelperSaid (Ok answered.Reached))) parts ends =
          let act : Act H = did (event.HelperSaid j h s t) (reply.HelperSaid (Ok answered.Reached)) in
          let last : In act (rounds_acts r) =
          In-whole r one.itself act (subst (λ (l : List (Act H)). In act l) (sym parts) (in_append_right act one.prefix (act ∷ []) (inl refl))) in
          let e = In-from_mapped (λ (x : CallEntry H). (x.call, x.answer)) act r.entries last in
          let so : s ≡ said.Reached = words e.0 e.1 j h t s (ap (λ (x : Act H). x.0) e.2) (ap (λ (x : Act H). x.1) e.2) in
          absurd (not_reached.no_word j h t (Ok answered.Reached) ends.2
          (subst (λ (w : Said). Contains (rounds_acts r) (did (event.HelperSaid j h w t) (reply.HelperSaid (Ok answered.Reached)))) so
          (Contains-whole r one.itself act (subst (λ (l : List (Act H)). Contains l act) (sym parts) (Contains-end one.prefix act)))))
      by_act (OfEvent (event.HelperSaid j h s t), WithReply (reply.HelperSaid (Ok (answered.Suspect c)))) parts ends = inl ends.2
      by_act (OfEvent (event.HelperSaid j h s t), WithReply (reply.HelperSaid (Ok answered.Inconclusive))) parts ends = inr ends.2
      by_act other parts ends = elim ends [ ]

  -- calls between rounds begin no probe
  none_between : (entries : List (CallEntry H)) → BeginsNone entries → begun (acts_of entries) ≡ []
  none_between [] none = refl
  none_between (e ∷ es) none = by_call (begun_by (e.call, e.answer)) refl (none_between es (λ x h. none x (inr h)))
    where
      by_call : (o : Option Probe) → begun_by (e.call, e.answer) ≡ o → begun (acts_of es) ≡ [] → cons_option (begun_by (e.call, e.answer)) (begun (acts_of es)) ≡ []
      by_call None is rest = ap (λ o. cons_option o (begun (acts_of es))) is ∙ rest
      by_call (Some p) is rest = absurd (none e (inl refl) (begun_call (e.call, e.answer) p is))

  -- the probes of rounds, one of each

  record Probed (rounds : List (GossipRound H)) : Type 0 where
    pub probes : List Probe
    pub all : begun (acts_of (calls_in rounds)) ≡ probes
    pub as_many : length probes ≡ length rounds
    pub each : (p : Probe) → In p probes → (r : GossipRound H) × In r rounds × (one : ProbesOne r) × (one.probe ≡ p)

  begun_both : (xs ys : List (CallEntry H)) → begun (acts_of (xs ++ ys)) ≡ begun (acts_of xs) ++ begun (acts_of ys)
  begun_both xs ys = ap begun (map-both (λ (e : CallEntry H). (e.call, e.answer)) xs ys) ∙ filter_map-both begun_by (acts_of xs) (acts_of ys)

  probed : (rounds : List (GossipRound H)) → ((r : GossipRound H) → In r rounds → BeginsNone r.between × ProbesOne r) → Probed rounds
  probed [] ones = record { probes = []; all = refl; as_many = refl; each = λ p h. absurd h }
  probed (r ∷ rs) ones =
      let one = (ones r (inl refl)).1 in
      let rest = probed rs (λ s h. ones s (inr h)) in
      record {
        probes = one.probe ∷ rest.probes;
        all = begun_both r.between (r.entries ++ calls_in rs)
            ∙ ap (λ (l : List Probe). l ++ begun (acts_of (r.entries ++ calls_in rs))) (none_between r.between (ones r (inl refl)).0)
            ∙ begun_both r.entries (calls_in rs)
            ∙ ap (λ (l : List Probe). l ++ begun (acts_of (calls_in rs))) one.only ∙ ap (λ (l : List Probe). one.probe ∷ l) rest.all;
        as_many = ap suc rest.as_many;
        each = λ p h. elim h [
          | inl is ↦ (r, inl refl, one, sym is)
          | inr k ↦ let s = rest.each p k in (s.0, inr s.1, s.2, s.3)
        ];
      }

  In-calls : (rounds : List (GossipRound H)) (r : GossipRound H) (e : CallEntry H) → In r rounds → In e r.entries → In e (calls_in rounds)
  In-calls [] r e h k = absurd h
  In-calls (s ∷ rs) r e (inl is) k =
      in_append_right e s.between (s.entries ++ calls_in rs) (in_append_left e s.entries (calls_in rs) (subst (λ (x : GossipRound H). In e x.entries) is k))
  In-calls (s ∷ rs) r e (inr h) k = in_append_right e s.between (s.entries ++ calls_in rs) (in_append_right e s.entries (calls_in rs) (In-calls rs r e h k))

pub members_are_probed : {H : Type 0} (hash_of : H → List ℕ → ℕ) (Came : MayAnswer) → MembersAreProbed hash_of Came
members_are_probed {H} hash_of Came n a members old last history rounds kept legal made are_rounds alone there enough not_reached =
    let ones : (r : GossipRound H) → In r rounds → ProbesOne Came r =
    λ r h. probes_one Came r (parted Came r (are_rounds r h).1) (λ e k asked answers. empty (nobody hash_of n members old last history e legal alone
    (subst (λ (es : List (CallEntry H)). In e es) (sym made) (In-calls Came rounds r e h k)) asked answers)) in
    let all = probed Came rounds (λ r h. ((are_rounds r h).0, ones r h)) in
    let picks = picks_of hash_of n members old last history legal alone in
    let same : map (λ (p : Picked). p.probe) picks.0 ≡ all.probes = picks.2 ∙ ap (λ (es : List (CallEntry H)). begun (acts_of es)) made ∙ all.all in
    let many : length picks.0 ≡ length rounds = sym (length-map picks.0 (λ (p : Picked). p.probe)) ∙ ap length same ∙ all.as_many in
    let held : Contains (targets_of picks.0) a = all_picked members old.probing.rest picks.0 kept.probed.different picks.1 (subst (λ k. 2 * length members - 1 ≤ k) (sym many) enough) a there in
    let pick = In-from_mapped (λ (p : Picked). p.probe.target) a picks.0 (In-from_Contains a (targets_of picks.0) held) in
    let in_probes : In pick.0.probe all.probes = subst (λ (l : List Probe). In pick.0.probe l) same (In-mapped (λ (p : Picked). p.probe) pick.0 picks.0 pick.1) in
    let of = all.each pick.0.probe in_probes in (
      of.0,
      of.1,
      found Came of.0 a of.2 (ap (λ (p : Probe). p.target) of.3 ∙ pick.2) (not_reached of.0 of.1)
          (λ e k j h t s called answers. word_in hash_of n old last history e j h t s legal (subst (λ (es : List (CallEntry H)). In e es) (sym made) (In-calls Came rounds of.0 e of.1 k)) called answers),
    )
  where
    empty : members ≡ [] → ⊥
    empty e = let none : Contains [] a = subst (λ (l : List ℕ). Contains l a) e there in omega (arith, none.1)

-- rounds that a pass made

append-cancel : {A : Type 0} (xs ys zs : List A) → xs ++ ys ≡ xs ++ zs → ys ≡ zs
append-cancel [] ys zs e = e
append-cancel (x ∷ xs) ys zs e = append-cancel xs ys zs cc

module _ {H : Type 0} (hash_of : H → List ℕ → ℕ) (Came : MayAnswer) where
  all_made : (locked : LockedNode H) (p q : NodePass H) (rounds : List (GossipRound H)) → RoundsMade Came locked p rounds q → Made locked p q (calls_in rounds)
  all_made locked p q [] made = subst (λ (x : NodePass H). Made locked p x []) (sym made) (made_none locked p)
  all_made locked p q (r ∷ rs) (start, mid, others, none, one, is, rest) =
      made_in_turn locked p start q r.between (r.entries ++ calls_in rs) others
      (made_in_turn locked start mid q r.entries (calls_in rs) one (all_made locked mid q rs rest))

  each_round : (locked : LockedNode H) (p q : NodePass H) (rounds : List (GossipRound H)) → RoundsMade Came locked p rounds q
      → (r : GossipRound H) → In r rounds → BeginsNone r.between × IsEitherRound Came r.now r.round (acts_of r.entries)
  each_round locked p q [] made r h = absurd h
  each_round locked p q (s ∷ rs) (start, mid, others, none, one, is, rest) r (inl e) =
      subst (λ (x : GossipRound H). BeginsNone x.between × IsEitherRound Came x.now x.round (acts_of x.entries)) (sym e) (none, is)
  each_round locked p q (s ∷ rs) (start, mid, others, none, one, is, rest) r (inr h) = each_round locked mid q rs rest r h

  pub passes_probe : PassesProbe hash_of Came
  passes_probe locked p q a members old last since rounds opened seen legal all made alone there enough not_reached =
      let n : ℕ = lock.number_of p in
      let grown : entries_of n (lock.seen q) ≡ entries_of n (lock.seen p) ++ calls_in rounds = grown_entries n (calls_in rounds) (lock.seen q) (lock.seen p) (all_made locked p q rounds made).grown in
      let parts : entries_of n (lock.seen p) ++ entries_of n since ≡ entries_of n (lock.seen p) ++ calls_in rounds =
      sym (entries_append n (lock.seen p) since) ∙ ap (entries_of n) (sym all) ∙ grown in
      members_are_probed hash_of Came n a members old last since rounds (histories_keep_it hash_of (opening_of locked).node old (lock.seen p) opened.kept seen).1 legal
      (append-cancel (entries_of n (lock.seen p)) (entries_of n since) (calls_in rounds) parts) (each_round locked p q rounds made) alone there enough not_reached
