-- Every call of a node keeps its invariant: the calls one by one.
use Rattle.std.proofs.Common.{◌≡◌, ◌≢◌, ℕ, ◌+◌, ◌<◌, ◌≤◌, ◌&&◌, Bool, true, false, cond, not, eqb, List, [], ◌∷◌, ◌++◌, Option, Some, None, Result, Ok, Err, refl, sym, ◌∙◌, ap, subst, inl, inr, map, take, length, arith, lit≤}
use Rattle.std.specs.Prelude.{filter, nat_lt, is_none}
use Rattle.std.proofs.lemmas.Bool.{eqb-true, eqb-false, eq-eqb, ltb-true, and_parts, false≢true, not-true, not-false}
use Rattle.change_core.specs.declared.changes.Change.{Change}
use Rattle.change_core.specs.declared.changes.Sourced.{Sourced}
use Rattle.change_core.specs.declared.statuses.Status.{Status}
use Rattle.change_core.specs.declared.statuses.Status.TheVariants.{Alive, Suspect, Faulty, Leave, Tombstone}
use Rattle.change_core.specs.Ascending.{In}
use Rattle.change_core.specs.Change.{Exceeds, exceeds}
use Rattle.change_core.specs.Members.{greatest, members, alters, serving, address_of_change, IsMemberList}
use Rattle.change_core.specs.Numbers.{greatest_number}
use Rattle.change_core.specs.Refutation.{is_refuted, refutation}
use Rattle.change_core.specs.Status.{rank, is_serving}
use Rattle.change_core.proofs.Members.{members-IsMemberList}
use Rattle.change_core.proofs.News.{length-members_known, length-members_new}
use Rattle.change_core.proofs.Order.{in_filter}
use Rattle.change_core.proofs.Precedence.{Exceeds-true, exceeds-true, same_from_rank}
use Rattle.detector_core.specs.Probing.{IsProbing, ProbeState}
use Rattle.rand_pcg.specs.Lcg.{Lcg}
use Rattle.gossip_core.specs.declared.pending.Pending.{Pending}
use Rattle.gossip_core.specs.Pending.{counted, fresh, limit_for, subject}
use Rattle.message_core.specs.declared.messages.Message.{Message}
use Rattle.message_core.specs.declared.messages.Content.{Content}
use Rattle.message_core.specs.declared.messages.Content.TheVariants as content
use Rattle.node_core.specs.declared.configs.Config.{Config}
use Rattle.node_core.specs.declared.errors.NodeError.{NodeError}
use Rattle.node_core.specs.declared.errors.NodeError.TheVariants as error
use Rattle.node_core.specs.declared.events.Event.{Event}
use Rattle.node_core.specs.declared.events.Event.TheVariants as call
use Rattle.node_core.specs.declared.events.Reply.{Reply}
use Rattle.node_core.specs.declared.events.Reply.TheVariants as answer
use Rattle.node_core.specs.declared.events.Received.{Received}
use Rattle.node_core.specs.declared.events.Received.TheVariants as received
use Rattle.node_core.specs.declared.events.NodeLost.TheVariants as lost
use Rattle.node_core.specs.declared.events.NodeOutcome.TheVariants as answered
use Rattle.node_core.specs.declared.events.StopCause.TheVariants.{Exhausted, Full}
use Rattle.node_core.specs.declared.events.Taken.{Taken}
use Rattle.node_core.specs.declared.events.Stopped.{Stopped}
use Rattle.node_core.specs.Asserting.{leaving, rejoining}
use Rattle.node_core.specs.Calls.{OfEvent, OfView, WithReply, WithView, AllCallsKeepIt}
use Rattle.node_core.specs.Configs.{IsConfig}
use Rattle.node_core.specs.Expiring.{is_due, is_reached, timer_of, due, expired}
use Rattle.node_core.specs.Invariant.{IsNode, CallsKeepIt, Purpose, purpose}
use Rattle.node_core.specs.Messages.{told}
use Rattle.node_core.specs.Node.{Node, altered, asserted_by, asserts, at_moment, birth, has_deadline, is_timed, members_after, next_status, or_birth, own_change, pingable, said_by}
use Rattle.node_core.specs.Probes.{ended, put_in, suspicion, suspicion_in, suspicion_of, Suspects}
use Rattle.node_core.specs.Receiving.{AnswerStep, ReceiveStep, MakeStep}
use Rattle.node_core.specs.Step.{NodeStep}
use Rattle.node_core.specs.Taking.{NoneRefused, TakeStep, altered_by, refusal, took, took_all}
use Rattle.node_core.specs.World.{initial_node}
use Rattle.node_core.proofs.Apart.{AreApart-from_each, OnePerAddress-from_apart, apart-filter, apart-counted}
use Rattle.node_core.proofs.Configured.{limits_within}
use Rattle.node_core.proofs.Kept.{altered_kept}
use Rattle.node_core.proofs.Listed.{In-find, In-counted, In-below, address-greatest, greatest-member}
use Rattle.detector_core.proofs.Waiting.{probed-ended, probed-lost, probed-pick, probed-waiting}
use Rattle.node_core.proofs.Probed.{IsOfOther, running_other, unasked_other, others-lost, others-waiting, others-pick}
use Rattle.node_core.proofs.Synchronising.{Exceeds-refutation}

-- a list of members with one change more fits, unless the change is about an unknown address and the list is full
pub fits_with : (M : List Change) (max : ℕ) (c : Change) → IsMemberList M → length M ≤ max → (greatest M c.address ≡ None → length M ≢ max) → length (members (M ++ c ∷ [])) ≤ max
fits_with M max c one few room = by_entry (greatest M c.address) refl
  where
    same : length (members M) ≡ length M
    same = ap length (members-IsMemberList M one)

    by_entry : (o : Option Change) → greatest M c.address ≡ o → length (members (M ++ c ∷ [])) ≤ max
    by_entry None e = omega (arith, length-members_new M c e, same, few, room e)
    by_entry (Some d) e = omega (arith, length-members_known M c d e, same, few)

module _ {H : Type 0} (node : Node H) (kept : IsNode node) where
  pub held_is_own : kept.held.address ≡ node.own
  held_is_own = address-greatest node.members node.own kept.held kept.held_is

  pub own_change_kept : own_change node ≡ kept.held
  own_change_kept = ap (or_birth node.own) kept.held_is

  pub at_kept : (moment : ℕ) → IsNode (at_moment node moment)
  at_kept moment = record {
    one_each = kept.one_each;
    few = kept.few;
    held = kept.held;
    held_is = kept.held_is;
    held_stays = kept.held_stays;
    current = kept.current;
    apart = kept.apart;
    unspent = kept.unspent;
    limit_is = kept.limit_is;
    timed = kept.timed;
    others = kept.others;
    probed = kept.probed;
    configured = kept.configured;
    factor_is = kept.factor_is;
    helpers_is = kept.helpers_is;
  }

  pub ended_kept : IsNode (ended node)
  ended_kept = record {
    one_each = kept.one_each;
    few = kept.few;
    held = kept.held;
    held_is = kept.held_is;
    held_stays = kept.held_stays;
    current = kept.current;
    apart = kept.apart;
    unspent = kept.unspent;
    limit_is = kept.limit_is;
    timed = kept.timed;
    others = λ p e. cc;
    probed = probed-ended node.probing kept.probed;
    configured = kept.configured;
    factor_is = kept.factor_is;
    helpers_is = kept.helpers_is;
  }

  pub probing_kept : (probing : ProbeState) → IsOfOther node.own probing → IsProbing probing → probing.helpers ≡ node.probing.helpers → IsNode (record node { probing = probing })
  probing_kept probing other probed same = record {
    one_each = kept.one_each;
    few = kept.few;
    held = kept.held;
    held_is = kept.held_is;
    held_stays = kept.held_stays;
    current = kept.current;
    apart = kept.apart;
    unspent = kept.unspent;
    limit_is = kept.limit_is;
    timed = kept.timed;
    others = other;
    probed = probed;
    configured = kept.configured;
    factor_is = kept.factor_is;
    helpers_is = same ∙ kept.helpers_is;
  }

  pub told_kept : (target : ℕ) → IsNode (told node target)
  told_kept target = record {
    one_each = kept.one_each;
    few = kept.few;
    held = kept.held;
    held_is = kept.held_is;
    held_stays = kept.held_stays;
    current = λ p h.
        let r = In-counted target node.config.per_message node.gossip.pending p (In-below node.gossip.limit (counted target node.config.per_message node.gossip.pending) p h) in
        subst (λ (s : Sourced). greatest node.members s.change.address ≡ Some s.change) r.2 (kept.current r.0 r.1);
    apart = OnePerAddress-from_apart _ (apart-filter _ (counted target node.config.per_message node.gossip.pending)
        (apart-counted target node.config.per_message node.gossip.pending (AreApart-from_each node.gossip.pending kept.apart)));
    unspent = λ p h. ltb-true p.count node.gossip.limit (in_filter (λ (q : Pending). nat_lt q.count node.gossip.limit) p (counted target node.config.per_message node.gossip.pending) h).1;
    limit_is = kept.limit_is;
    timed = kept.timed;
    others = kept.others;
    probed = kept.probed;
    configured = kept.configured;
    factor_is = kept.factor_is;
    helpers_is = kept.helpers_is;
  }

  -- a change about a known address finds its place
  known_fits : (c d : Change) → greatest node.members c.address ≡ Some d → length (members_after node c) ≤ node.config.max_members
  known_fits c d e = fits_with node.members node.config.max_members c kept.one_each kept.few (λ none. cc)

  -- and so does one that is not refused
  taken_fits : (c : Change) → refusal node c ≡ None → length (members_after node c) ≤ node.config.max_members
  taken_fits c free = fits_with node.members node.config.max_members c kept.one_each kept.few (λ none full. by_refuted (is_refuted node.own (greatest node.members node.own) c && not (nat_lt c.incarnation greatest_number)) none full free)
    where
      by_refuted : (b : Bool) → greatest node.members c.address ≡ None → length node.members ≡ node.config.max_members
          → cond b (Some Exhausted) (cond (is_none (greatest node.members c.address) && eqb (length node.members) node.config.max_members) (Some Full) None) ≡ None → ⊥
      by_refuted true none full e = cc
      by_refuted false none full e =
          let yes : (is_none (greatest node.members c.address) && eqb (length node.members) node.config.max_members) ≡ true
          = ap (λ (o : Option Change). is_none o && eqb (length node.members) node.config.max_members) none ∙ eq-eqb (length node.members) node.config.max_members full in
          let found : Some Full ≡ None = sym (ap (λ b. cond b (Some Full) None) yes) ∙ e in
          cc

  -- one given change
  pub alters_held : (c : Change) → c.address ≡ node.own → Exceeds c kept.held → alters (greatest node.members c.address) c ≡ true
  alters_held c about past =
      subst (λ (a : ℕ). alters (greatest node.members a) c ≡ true) (sym about)
      (subst (λ (g : Option Change). alters g c ≡ true) (sym kept.held_is) (exceeds-true c kept.held past))

  -- a change of the node's own entry, which stays alive or leave
  pub own_kept : (c : Change) → c.address ≡ node.own → Exceeds c kept.held → asserts c.status ≡ true → IsNode (altered node (asserted_by node.own c))
  own_kept c about past stays =
      altered_kept node kept (asserted_by node.own c) (alters_held c about past) (λ e. stays) (known_fits c kept.held (ap (greatest node.members) about ∙ kept.held_is))

  took_plain : (s : Sourced) → refusal node s.change ≡ None → is_refuted node.own (Some kept.held) s.change ≡ false → (b : Bool) → alters (greatest node.members s.change.address) s.change ≡ b → IsNode (altered_by node (cond b (Some s) None))
  took_plain s free plain false e = kept
  took_plain s free plain true e = altered_kept node kept s e stays (taken_fits s.change free)
    where
      stays : s.change.address ≡ node.own → asserts s.change.status ≡ true
      stays about =
          let exceeding : exceeds s.change kept.held ≡ true = subst (λ (g : Option Change). alters g s.change ≡ true) (ap (λ (a : ℕ). greatest node.members a) about ∙ kept.held_is) e in
          let rest : (exceeds s.change kept.held && not (eqb (rank s.change.status) (rank kept.held.status))) ≡ false
          = subst (λ (b : Bool). (b && (exceeds s.change kept.held && not (eqb (rank s.change.status) (rank kept.held.status)))) ≡ false) (eq-eqb s.change.address node.own about) plain in
          let same : not (eqb (rank s.change.status) (rank kept.held.status)) ≡ false
          = subst (λ (b : Bool). (b && not (eqb (rank s.change.status) (rank kept.held.status))) ≡ false) exceeding rest in
          subst (λ (t : Status). asserts t ≡ true) (sym (same_from_rank s.change.status kept.held.status (eqb-true (rank s.change.status) (rank kept.held.status) (not-false _ same)))) kept.held_stays

  took_held : (s : Sourced) → refusal node s.change ≡ None → (b : Bool) → is_refuted node.own (Some kept.held) s.change ≡ b
      → IsNode (altered_by node (cond b (Some (asserted_by node.own (refutation kept.held s.change))) (cond (alters (greatest node.members s.change.address) s.change) (Some s) None)))
  took_held s free false e = took_plain s free e (alters (greatest node.members s.change.address) s.change) refl
  took_held s free true e =
      let parts = and_parts _ _ e in
      let more = and_parts _ _ parts.1 in
      own_kept (refutation kept.held s.change) held_is_own
      (Exceeds-refutation kept.held s.change (Exceeds-true s.change kept.held more.0)) kept.held_stays

  pub took_kept : (s : Sourced) → refusal node s.change ≡ None → IsNode (took node s)
  took_kept s free =
      subst (λ (g : Option Change). IsNode (altered_by node (cond (is_refuted node.own g s.change) (Some (asserted_by node.own (refutation (or_birth node.own g) s.change))) (cond (alters (greatest node.members s.change.address) s.change) (Some s) None))))
      (sym kept.held_is) (took_held s free (is_refuted node.own (Some kept.held) s.change) refl)

  suspicion_kept : (target : ℕ) (change : Option Change) → target ≢ node.own → change ≡ suspicion node target → IsNode (put_in node change)
  suspicion_kept target change other e =
      subst (λ (o : Option Change). IsNode (put_in node o)) (sym e) (by_entry (greatest node.members target) refl)
    where
      by_status : (c : Change) (s : Status) → greatest node.members target ≡ Some c → c.status ≡ s → IsNode (put_in node (suspicion_of c s))
      by_status c Alive g k =
          let suspect : Change = record c { status = Suspect } in
          altered_kept node kept (said_by node suspect)
          (subst (λ (a : ℕ). alters (greatest node.members a) suspect ≡ true) (sym (address-greatest node.members target c g))
          (subst (λ (o : Option Change). alters o suspect ≡ true) (sym g)
          (exceeds-true suspect c (inr (refl, inl (subst (λ (s : Status). rank s < 1) (sym k) (omega arith)))))))
          (λ about. absurd (other (sym (address-greatest node.members target c g) ∙ about)))
          (known_fits suspect c (ap (greatest node.members) (address-greatest node.members target c g) ∙ g))
      by_status c Suspect g k = kept
      by_status c Faulty g k = kept
      by_status c Leave g k = kept
      by_status c Tombstone g k = kept

      by_entry : (o : Option Change) → greatest node.members target ≡ o → IsNode (put_in node (suspicion_in o))
      by_entry None g = kept
      by_entry (Some c) g = by_status c c.status g refl

  expiry_kept : (by : Node H) (c change : Change) → due node ≡ Some c → change ≡ expired c → IsNode (altered node (said_by by change))
  expiry_kept by c change e same =
      let found = In-find (is_due node) c node.members e in
      let timed = and_parts (is_timed node.own c) (is_reached node.moment (timer_of node.timers c.address)) found.1 in
      let parts = and_parts (has_deadline c.status) (not (eqb c.address node.own)) timed.0 in
      let member : greatest node.members c.address ≡ Some c = greatest-member node.members c kept.one_each found.0 in
      subst (λ (d : Change). IsNode (altered node (said_by by d))) (sym same)
      (altered_kept node kept (said_by by (expired c))
      (subst (λ (o : Option Change). alters o (expired c) ≡ true) (sym member) (exceeds-true (expired c) c (inr (refl, inl (later c.status parts.0)))))
      (λ about. absurd (eqb-false c.address node.own (not-true (eqb c.address node.own) parts.1) about))
      (known_fits (expired c) c member))
    where
      later : (s : Status) → has_deadline s ≡ true → rank s < rank (next_status s)
      later Alive h = absurd (false≢true h)
      later Suspect h = omega arith
      later Faulty h = omega arith
      later Leave h = absurd (false≢true h)
      later Tombstone h = absurd (false≢true h)

pub took_all_kept : {H : Type 0} (node : Node H) (ss : List Sourced) → IsNode node → NoneRefused node ss → IsNode (took_all node ss)
took_all_kept node [] kept free = kept
took_all_kept node (s ∷ ss) kept free = took_all_kept (took node s) ss (took_kept node kept s free.0) free.1

module _ {H : Type 0} (old : Node H) (kept : IsNode old) where
  is_kept : (after new : Node H) → new ≡ after → IsNode after → IsNode new
  is_kept after new e k = subst (λ (n : Node H). IsNode n) (sym e) k

  pub TakeStep_kept : (given : List Sourced) (moment : ℕ) (result : Result Taken Stopped) (new : Node H) → TakeStep old given moment result new → IsNode new
  TakeStep_kept given moment (Ok taken) new step = is_kept _ new step.new_is (took_all_kept (at_moment old moment) given (at_kept old kept moment) step.none_refused)
  TakeStep_kept given moment (Err stopped) new step = is_kept _ new step.new_is (took_all_kept (at_moment old moment) (take stopped.taken given) (at_kept old kept moment) step.none_refused)

  make_kept : (after new : Node H) (message : Message) (result : Result Message NodeError) → IsNode after → MakeStep old message after result new → IsNode new
  make_kept after new message (Ok made) k step = is_kept after new step.1 k
  make_kept after new message (Err error.Memory) k step = is_kept old new step kept
  make_kept after new message (Err other) k step = elim step [ ]

  answer_kept : (mid new : Node H) (source : ℕ) (b : Content) (reply : Message) → IsNode mid → AnswerStep mid source b reply new → IsNode new
  answer_kept mid new source (content.Join news) reply k step = is_kept mid new step.1 k
  answer_kept mid new source (content.Ping news) reply k step = is_kept _ new step.1 (told_kept mid k source)
  answer_kept mid new source other reply k step = elim step [ ]

  receive_kept : (message : Message) (moment : ℕ) (r : Received) (new : Node H) → ReceiveStep old message moment r new → IsNode new
  receive_kept message moment (received.Done taken) new step = TakeStep_kept _ moment (Ok taken) new step.2
  receive_kept message moment (received.Answer taken reply) new step = answer_kept step.0 new message.source message.content reply (TakeStep_kept _ moment (Ok taken) step.0 step.1) step.2
  receive_kept message moment (received.NoAnswer taken) new step = TakeStep_kept _ moment (Ok taken) new step.1
  receive_kept message moment (received.Stopped stopped) new step = TakeStep_kept _ moment (Err stopped) new step.1
  receive_kept message moment received.NotGossip new step = is_kept old new step.1 kept

  suspects_kept : (target moment : ℕ) (change : Option Change) (new : Node H) → target ≢ old.own → Suspects old target moment change new → IsNode new
  suspects_kept target moment change new other step =
      is_kept _ new step.new_is
      (ended_kept (put_in (at_moment old moment) change) (suspicion_kept (at_moment old moment) (at_kept old kept moment) target change other step.change_is))

  alive_rank : (s : Status) → asserts s ≡ true → s ≢ Leave → rank s < 3
  alive_rank Alive h k = omega arith
  alive_rank Suspect h k = absurd (false≢true h)
  alive_rank Faulty h k = absurd (false≢true h)
  alive_rank Leave h k = absurd (k refl)
  alive_rank Tombstone h k = absurd (false≢true h)

  -- what is made of the node's own entry is about the node itself
  about_own : (change made : Change) → change ≡ made → made.address ≡ (own_change old).address → change.address ≡ old.own
  about_own change made same e =
      ap (λ (c : Change). c.address) same ∙ e ∙ ap (λ (c : Change). c.address) (own_change_kept old kept) ∙ held_is_own old kept

  left_kept : (change : Change) (new : Node H) → (own_change old).status ≢ Leave → change ≡ leaving old → new ≡ altered old (asserted_by old.own change) → IsNode new
  left_kept change new stays same e =
      let held : own_change old ≡ kept.held = own_change_kept old kept in
      is_kept _ new e
      (own_kept old kept change (about_own change (leaving old) same refl)
      (inr (
        ap (λ (c : Change). c.incarnation) (sym held) ∙ ap (λ (c : Change). c.incarnation) (sym same),
        inl (subst (λ (c : Change). rank kept.held.status < rank c.status) (sym same)
            (alive_rank kept.held.status kept.held_stays (subst (λ (c : Change). c.status ≢ Leave) held stays))),
      ))
      (ap (λ (c : Change). asserts c.status) same))

  rejoined_kept : (change : Change) (new : Node H) → change ≡ rejoining old → new ≡ altered old (asserted_by old.own change) → IsNode new
  rejoined_kept change new same e =
      let next : change.incarnation ≡ kept.held.incarnation + 1 = ap (λ (c : Change). c.incarnation) same ∙ ap (λ (c : Change). c.incarnation + 1) (own_change_kept old kept) in
      is_kept _ new e (own_kept old kept change (about_own change (rejoining old) same refl) (inl (omega (arith, next))) (ap (λ (c : Change). asserts c.status) same))

  step_kept : (hash_of : H → List ℕ → ℕ) (event : Event) (reply : Reply) (new : Node H) → NodeStep hash_of old event reply new → IsNode new
  step_kept hash_of (call.Take given moment) (answer.Take result) new step = TakeStep_kept given moment result new step
  step_kept hash_of (call.Receive message moment) (answer.Receive r) new step = receive_kept message moment r new step
  step_kept hash_of call.JoinMessage (answer.JoinMessage result) new step = make_kept _ new _ result kept step
  step_kept hash_of (call.PingTo target) (answer.PingTo result) new step = make_kept _ new _ result (told_kept old kept target) step
  step_kept hash_of (call.PingReqTo helper target) (answer.PingReqTo result) new step = make_kept _ new _ result (told_kept old kept helper) step
  step_kept hash_of (call.PingReqAckTo requester target reached) (answer.PingReqAckTo result) new step = make_kept _ new _ result (told_kept old kept requester) step
  step_kept hash_of call.Leave (answer.Leave (Ok change)) new step = left_kept change new step.0 step.1 step.2
  step_kept hash_of call.Leave (answer.Leave (Err error.AlreadyLeft)) new step = is_kept old new step.1 kept
  step_kept hash_of call.Leave (answer.Leave (Err error.Memory)) new step = is_kept old new step.1 kept
  step_kept hash_of call.Rejoin (answer.Rejoin (Ok change)) new step = rejoined_kept change new step.2 step.3
  step_kept hash_of call.Rejoin (answer.Rejoin (Err error.NotLeft)) new step = is_kept old new step.1 kept
  step_kept hash_of call.Rejoin (answer.Rejoin (Err error.Exhausted)) new step = is_kept old new step.2 kept
  step_kept hash_of call.Rejoin (answer.Rejoin (Err error.Memory)) new step = is_kept old new step.2 kept
  step_kept hash_of (call.Expire moment) (answer.Expire (Ok None)) new step = is_kept _ new step.1 (at_kept old kept moment)
  step_kept hash_of (call.Expire moment) (answer.Expire (Ok (Some change))) new step =
      is_kept _ new step.3 (expiry_kept (at_moment old moment) (at_kept old kept moment) old step.0 change step.1 step.2)
  step_kept hash_of (call.Expire moment) (answer.Expire (Err error.Memory)) new step = is_kept old new step.1 kept
  step_kept hash_of call.Probe (answer.Probe (Ok (Some pick))) new step =
      is_kept _ new step.2 (probing_kept old kept new.probing (others-pick old pick new.probing step.1) (probed-pick (pingable old) old.probing pick new.probing step.1) (ap (λ (s : ProbeState). s.helpers) step.1.left))
  step_kept hash_of call.Probe (answer.Probe (Ok None)) new step = is_kept old new step.3 kept
  step_kept hash_of call.Probe (answer.Probe (Err error.Busy)) new step = is_kept old new step.1 kept
  step_kept hash_of call.Probe (answer.Probe (Err error.Spent)) new step = is_kept old new step.2 kept
  step_kept hash_of call.Probe (answer.Probe (Err error.Memory)) new step = is_kept old new step.3 kept
  step_kept hash_of (call.Acked number) (answer.Acked (Ok done)) new step = is_kept _ new step.1 (ended_kept old kept)
  step_kept hash_of (call.Acked number) (answer.Acked (Err error.StaleProbe)) new step = is_kept old new step.1 kept
  step_kept hash_of (call.Lost number moment) (answer.Lost (Ok (lost.Ask helpers))) new step =
      is_kept _ new step.3
      (probing_kept (at_moment old moment) (at_kept old kept moment) new.probing
      (others-lost old.own old.probing kept.others (pingable old) step.0 helpers new.probing (unasked_other old.own old.probing kept.others number step.0 step.1) step.2)
      (probed-lost old.probing kept.probed (pingable old) step.0 helpers new.probing step.2)
      (ap (λ (s : ProbeState). s.helpers) step.2.left))
  step_kept hash_of (call.Lost number moment) (answer.Lost (Ok (lost.Suspect change))) new step =
      suspects_kept step.0 moment change new (unasked_other old.own old.probing kept.others number step.0 step.1) step.3
  step_kept hash_of (call.Lost number moment) (answer.Lost (Err error.StaleProbe)) new step = is_kept old new step.1 kept
  step_kept hash_of (call.Lost number moment) (answer.Lost (Err error.Memory)) new step = is_kept old new step.3 kept
  step_kept hash_of (call.HelperSaid number helper said moment) (answer.HelperSaid (Ok answered.Waiting)) new step =
      is_kept _ new step.1 (probing_kept (at_moment old moment) (at_kept old kept moment) _ (others-waiting old.own old.probing kept.others helper said)
      (probed-waiting old.probing kept.probed number helper said step.0) refl)
  step_kept hash_of (call.HelperSaid number helper said moment) (answer.HelperSaid (Ok answered.Reached)) new step = is_kept _ new step.1 (ended_kept (at_moment old moment) (at_kept old kept moment))
  step_kept hash_of (call.HelperSaid number helper said moment) (answer.HelperSaid (Ok (answered.Suspect change))) new step =
      suspects_kept step.0 moment change new (running_other old.own old.probing kept.others number step.0 step.2) step.3
  step_kept hash_of (call.HelperSaid number helper said moment) (answer.HelperSaid (Ok answered.Inconclusive)) new step = is_kept _ new step.1 (ended_kept (at_moment old moment) (at_kept old kept moment))
  step_kept hash_of (call.HelperSaid number helper said moment) (answer.HelperSaid (Err error.StaleProbe)) new step = is_kept old new step.1 kept
  step_kept hash_of (call.HelperSaid number helper said moment) (answer.HelperSaid (Err error.NotAsked)) new step = is_kept old new step.1 kept
  step_kept hash_of (call.HelperSaid number helper said moment) (answer.HelperSaid (Err error.Memory)) new step = is_kept old new step.4 kept
  step_kept hash_of call.Own (answer.Own change) new step = is_kept old new step.1 kept
  step_kept hash_of (call.Member a) (answer.Member entry) new step = is_kept old new step.1 kept
  step_kept hash_of call.Len (answer.Len n) new step = is_kept old new step.1 kept
  step_kept hash_of (call.Owner key) (answer.Owner owner) new step = is_kept old new step.1 kept
  step_kept hash_of (call.Owners key n) (answer.Owners result) new step = is_kept old new step.1 kept
  step_kept hash_of call.Members (answer.Members result) new step = is_kept old new step.1 kept
  step_kept hash_of call.DigestText (answer.DigestText result) new step = is_kept old new step.1 kept
  step_kept hash_of call.Digest (answer.Digest result) new step = is_kept old new step.1 kept
  step_kept hash_of call.Running (answer.Running running) new step = is_kept old new step.1 kept
  step_kept hash_of event reply new step = elim step [ ]

pub calls_keep_it : {H : Type 0} (hash_of : H → List ℕ → ℕ) → CallsKeepIt hash_of
calls_keep_it hash_of old new event reply kept step = step_kept old kept hash_of event reply new step

pub all_calls_keep_it : {H : Type 0} (hash_of : H → List ℕ → ℕ) → AllCallsKeepIt hash_of
all_calls_keep_it hash_of old new (OfEvent event) (WithReply reply) kept step = step_kept old kept hash_of event reply new step
all_calls_keep_it hash_of old new OfView (WithView result) kept step = is_kept old kept old new step.1 kept
all_calls_keep_it hash_of old new call answer kept step = elim step [ ]

-- a node that begins meets the invariant
pub initial_node_kept : {H : Type 0} (hash : H) (config : Config) (own incarnation moment : ℕ) (generator : Lcg) → IsConfig config → IsNode (initial_node hash config own incarnation moment generator)
initial_node_kept hash config own incarnation moment generator configured = record {
  one_each = (tt, tt);
  few = (limits_within config configured).members;
  held = (birth own incarnation config.weight);
  held_is = ap (λ b. cond b (Some (birth own incarnation config.weight)) None) (eq-eqb own own refl);
  held_stays = refl;
  current = λ p h. of_pending p h;
  apart = OnePerAddress-from_apart (fresh (asserted_by own (birth own incarnation config.weight)) ∷ []) (λ q k. absurd k, tt);
  unspent = λ p h. unspent_one p h;
  limit_is = ap (λ (s : List ℕ). limit_for config.piggyback (length s)) (sym servers);
  timed = λ a. of_birth a (eqb own a) refl;
  others = λ p e. cc;
  probed = record { numbered = lit≤ tt; different = λ i j d p q. absurd (omega (arith, q)); waited = λ p e. cc };
  configured = configured;
  factor_is = refl;
  helpers_is = refl;
}
  where
    of_pending : (p : Pending) → In p (fresh (asserted_by own (birth own incarnation config.weight)) ∷ []) → greatest ((birth own incarnation config.weight) ∷ []) (subject p) ≡ Some p.sourced.change
    of_pending p (inl e) = subst (λ (q : Pending). greatest ((birth own incarnation config.weight) ∷ []) (subject q) ≡ Some q.sourced.change) (sym e) (ap (λ b. cond b (Some (birth own incarnation config.weight)) None) (eq-eqb own own refl))
    of_pending p (inr k) = absurd k

    unspent_one : (p : Pending) → In p (fresh (asserted_by own (birth own incarnation config.weight)) ∷ []) → p.count < limit_for config.piggyback 1
    unspent_one p (inl e) = subst (λ (q : Pending). q.count < limit_for config.piggyback 1) (sym e) (omega (arith, (limits_within config configured).piggyback))
    unspent_one p (inr k) = absurd k

    servers : serving ((birth own incarnation config.weight) ∷ []) ≡ own ∷ []
    servers = ap (λ (M : List Change). map address_of_change (filter (λ c. is_serving c.status) M)) (members-IsMemberList ((birth own incarnation config.weight) ∷ []) (tt, tt))

    of_birth : (a : ℕ) (b : Bool) → eqb own a ≡ b → ◌≡◌ {A = Option Purpose} None (purpose own (greatest ((birth own incarnation config.weight) ∷ []) a))
    of_birth a true e = ap (λ b. purpose own (cond b (Some (birth own incarnation config.weight)) None)) (sym e)
    of_birth a false e = ap (λ b. purpose own (cond b (Some (birth own incarnation config.weight)) None)) (sym e)
