-- Each call of a sound node leaves it sound, and makes sound messages.
use Rattle.std.proofs.Common.{◌≡◌, ◌≢◌, ℕ, ◌+◌, ◌<◌, Bool, true, false, cond, not, eqb, List, [], ◌∷◌, ◌++◌, Option, Some, None, Result, Ok, Err, refl, sym, ◌∙◌, ap, subst, inl, inr, map, take, append-nil, arith}
use Rattle.std.proofs.lemmas.Bool.{eqb-false, and_parts, false≢true, not-true}
use Rattle.std.proofs.lemmas.List.{take-map}
use Rattle.change_core.specs.declared.changes.Change.{Change}
use Rattle.change_core.specs.declared.changes.Sourced.{Sourced}
use Rattle.change_core.specs.declared.digests.Digest.{Digest}
use Rattle.change_core.specs.declared.statuses.Status.{Status}
use Rattle.change_core.specs.declared.statuses.Status.TheVariants.{Alive, Suspect, Faulty, Leave, Tombstone}
use Rattle.change_core.specs.Ascending.{In}
use Rattle.change_core.specs.Change.{Exceeds, change_of}
use Rattle.change_core.specs.Members.{greatest}
use Rattle.change_core.specs.Refutation.{is_refuted, refutation, refutations, log_one}
use Rattle.change_core.specs.Status.{rank}
use Rattle.change_core.proofs.Order.{in_append}
use Rattle.change_core.proofs.Precedence.{same_change}
use Rattle.detector_core.specs.Probing.{ProbeState}
use Rattle.gossip_core.specs.Pending.{counted}
use Rattle.message_core.specs.declared.messages.Message.{Message}
use Rattle.message_core.specs.declared.messages.Content.{Content}
use Rattle.message_core.specs.declared.messages.Content.TheVariants as content
use Rattle.node_core.specs.declared.errors.NodeError.{NodeError}
use Rattle.node_core.specs.declared.errors.NodeError.TheVariants as error
use Rattle.node_core.specs.declared.events.Event.{Event}
use Rattle.node_core.specs.declared.events.Event.TheVariants as call
use Rattle.node_core.specs.declared.events.Reply.{Reply}
use Rattle.node_core.specs.declared.events.Reply.TheVariants as answer
use Rattle.node_core.specs.declared.events.Received.{Received}
use Rattle.node_core.specs.declared.events.Received.TheVariants as received
use Rattle.node_core.specs.declared.events.NodeLost.TheVariants as lost
use Rattle.node_core.specs.declared.events.NodeOutcome.TheVariants as answered
use Rattle.node_core.specs.declared.events.Taken.{Taken}
use Rattle.node_core.specs.declared.events.Stopped.{Stopped}
use Rattle.node_core.specs.Asserting.{leaving, rejoining}
use Rattle.node_core.specs.Expiring.{is_due, is_reached, timer_of, due, expired}
use Rattle.node_core.specs.Messages.{carried, says, full_sync, piggyback, told, digest_of, is_same_digest, ack_changes}
use Rattle.node_core.specs.Node.{Node, altered, asserted_by, own_change, said_by, at_moment, pingable, has_deadline, next_status, is_timed, asserts}
use Rattle.node_core.specs.Probes.{ended, put_in, suspicion, suspicion_in, suspicion_of, Suspects}
use Rattle.node_core.specs.Receiving.{AnswerStep, ReceiveStep, MakeStep}
use Rattle.node_core.specs.Step.{NodeStep}
use Rattle.node_core.specs.Taking.{TakeStep}
use Rattle.node_core.specs.World.{Comes, grounds, IsGrounded, IsAssertedAt, refuted_in, renewed_in, asserted_in, made_in}
use Rattle.node_core.proofs.Listed.{In-find, In-take, In-map, In-greatest, address-greatest, In-below, In-counted, In-issued}
use Rattle.node_core.proofs.Probed.{IsOfOther, running_other, unasked_other, others-lost, others-waiting, others-pick}
use Rattle.node_core.proofs.Sound.{IsTold, IsSound, grounds-asserting, held_in, held_about, own_change_is, own_asserted, altered_other, altered_own, sound-nil, took_all_sound}

pub record IsSoundMessage (A : List Change) (message : Message) : Type 0 where
  pub source : IsAssertedAt A message.source message.source_incarnation
  pub news : (s : Sourced) → In s (carried message.content) → IsTold A s

-- an entry at its incarnation, as alive
abbrev pub alive_at : Change → Change
alive_at c = record c { status = Alive }

-- but for leave, a change rests on alive at its incarnation
grounds-alive : (c : Change) (s : Status) → c.status ≡ s → s ≢ Leave → grounds c ≡ alive_at c
grounds-alive c Alive e h = ap (λ (s : Status). cond (asserts s) c (alive_at c)) e ∙ same_change c (alive_at c) refl refl e refl
grounds-alive c Suspect e h = ap (λ (s : Status). cond (asserts s) c (alive_at c)) e
grounds-alive c Faulty e h = ap (λ (s : Status). cond (asserts s) c (alive_at c)) e
grounds-alive c Leave e h = absurd (h refl)
grounds-alive c Tombstone e h = ap (λ (s : Status). cond (asserts s) c (alive_at c)) e

alive_stays : Alive ≢ Leave
alive_stays e = cc

suspect_stays : Suspect ≢ Leave
suspect_stays e = cc

faulty_stays : Faulty ≢ Leave
faulty_stays e = cc

tombstone_stays : Tombstone ≢ Leave
tombstone_stays e = cc

module _ {H : Type 0} (A : List Change) (node : Node H) (sound : IsSound A node) where
  pub says_sound : (b : Content) → ((s : Sourced) → In s (carried b) → IsTold A s) → IsSoundMessage A (says node b)
  says_sound b news = record { source = own_asserted A node sound; news = news }

  -- an entry of the node, told by itself
  pub said_news : (c : Change) → IsGrounded A c → IsTold A (said_by node c)
  said_news c h = record { grounded = h; source = own_asserted A node sound }

  pub full_sync_news : (s : Sourced) → In s (full_sync node) → IsTold A s
  full_sync_news s h =
      let r = In-map (said_by node) s node.members h in
      subst (λ (t : Sourced). IsTold A t) r.2 (said_news r.0 (sound.grounded r.0 r.1))

  pub piggyback_news : (target : ℕ) (s : Sourced) → In s (piggyback node target) → IsTold A s
  piggyback_news target s h =
      let r = In-issued target node.config.per_message node.gossip.pending s h in
      subst (λ (t : Sourced). IsTold A t) r.2 (sound.news r.0 r.1)

  pub own_news : (s : Sourced) → In s (said_by node (own_change node) ∷ []) → IsTold A s
  own_news s (inl e) = subst (λ (t : Sourced). IsTold A t) (sym e) (said_news (own_change node) (subst (λ (c : Change). IsGrounded A c) (sym (own_change_is A node sound)) held))
    where
      held : IsGrounded A sound.held
      held = subst (λ (c : Change). In c A) (sym (grounds-asserting sound.held (sound.asserting sound.held (held_in A node sound)))) (held_in A node sound)
  own_news s (inr k) = absurd k

  pub ack_news : (checksum : Digest) (L : List Sourced) → ((s : Sourced) → In s L → IsTold A s) → (s : Sourced) → In s (ack_changes node checksum L) → IsTold A s
  ack_news checksum (t ∷ L) news s h = news s h
  ack_news checksum [] news s h = by_digest (is_same_digest checksum (digest_of node.members)) h
    where
      by_digest : (b : Bool) → In s (cond b [] (full_sync node)) → IsTold A s
      by_digest true k = absurd k
      by_digest false k = full_sync_news s k

  pub told_sound : (target : ℕ) → IsSound A (told node target)
  told_sound target = record {
    settled = sound.settled;
    held = sound.held;
    held_is = sound.held_is;
    last_is = sound.last_is;
    above = sound.above;
    asserting = sound.asserting;
    grounded = sound.grounded;
    news = λ p h.
        let r = In-counted target node.config.per_message node.gossip.pending p (In-below node.gossip.limit (counted target node.config.per_message node.gossip.pending) p h) in
        subst (λ (s : Sourced). IsTold A s) r.2 (sound.news r.0 r.1);
    others = sound.others;
    timed = sound.timed;
  }

  pub at_sound : (moment : ℕ) → IsSound A (at_moment node moment)
  at_sound moment = record {
    settled = sound.settled;
    held = sound.held;
    held_is = sound.held_is;
    last_is = sound.last_is;
    above = sound.above;
    asserting = sound.asserting;
    grounded = sound.grounded;
    news = sound.news;
    others = sound.others;
    timed = sound.timed;
  }

  pub ended_sound : IsSound A (ended node)
  ended_sound = record {
    settled = sound.settled;
    held = sound.held;
    held_is = sound.held_is;
    last_is = sound.last_is;
    above = sound.above;
    asserting = sound.asserting;
    grounded = sound.grounded;
    news = sound.news;
    others = λ p e. cc;
    timed = sound.timed;
  }

  pub probing_sound : (probing : ProbeState) → IsOfOther node.own probing → IsSound A (record node { probing = probing })
  probing_sound probing other = record {
    settled = sound.settled;
    held = sound.held;
    held_is = sound.held_is;
    last_is = sound.last_is;
    above = sound.above;
    asserting = sound.asserting;
    grounded = sound.grounded;
    news = sound.news;
    others = other;
    timed = sound.timed;
  }

  -- a suspicion rests on what its entry rests on
  suspicion_sound : (target : ℕ) (change : Option Change) → target ≢ node.own → change ≡ suspicion node target → IsSound A (put_in node change)
  suspicion_sound target change other e =
      subst (λ (o : Option Change). IsSound A (put_in node o)) (sym e) (by_entry (greatest node.members target) refl)
    where
      by_status : (c : Change) (s : Status) → greatest node.members target ≡ Some c → c.status ≡ s → IsSound A (put_in node (suspicion_of c s))
      by_status c Alive g e =
          altered_other A node sound (said_by node (record c { status = Suspect }))
          (said_news (record c { status = Suspect })
          (subst (λ (d : Change). In d A) (grounds-alive c Alive e alive_stays) (sound.grounded c (In-greatest node.members target c g))))
          (λ k. other (sym (address-greatest node.members target c g) ∙ k))
      by_status c Suspect g e = sound
      by_status c Faulty g e = sound
      by_status c Leave g e = sound
      by_status c Tombstone g e = sound

      by_entry : (o : Option Change) → greatest node.members target ≡ o → IsSound A (put_in node (suspicion_in o))
      by_entry None g = sound
      by_entry (Some c) g = by_status c c.status g refl

  -- an expiry rests on what its entry rests on
  expiry_sound : (c change : Change) → due node ≡ Some c → change ≡ expired c → IsSound A (altered node (said_by node change))
  expiry_sound c change e same =
      let found = In-find (is_due node) c node.members e in
      let timed = and_parts (is_timed node.own c) (is_reached node.moment (timer_of node.timers c.address)) found.1 in
      let parts = and_parts (has_deadline c.status) (not (eqb c.address node.own)) timed.0 in
      subst (λ (d : Change). IsSound A (altered node (said_by node d))) (sym same)
      (altered_other A node sound (said_by node (expired c))
      (said_news (expired c) (rests c.status refl parts.0 found.0))
      (eqb-false c.address node.own (not-true (eqb c.address node.own) parts.1)))
    where
      rests : (s : Status) → c.status ≡ s → has_deadline c.status ≡ true → In c node.members → IsGrounded A (expired c)
      rests Alive k h m = absurd (false≢true (subst (λ (x : Status). has_deadline x ≡ true) k h))
      rests Suspect k h m = subst (λ (d : Change). In d A) (grounds-alive c Suspect k suspect_stays ∙ sym (grounds-alive (expired c) Faulty (ap next_status k) faulty_stays)) (sound.grounded c m)
      rests Faulty k h m = subst (λ (d : Change). In d A) (grounds-alive c Faulty k faulty_stays ∙ sym (grounds-alive (expired c) Tombstone (ap next_status k) tombstone_stays)) (sound.grounded c m)
      rests Leave k h m = absurd (false≢true (subst (λ (x : Status). has_deadline x ≡ true) k h))
      rests Tombstone k h m = absurd (false≢true (subst (λ (x : Status). has_deadline x ≡ true) k h))

-- what one call of a node comes to: it is sound, goes by its address, and what it asserts and makes is its own
pub record StepIsSound {H : Type 0} (A : List Change) (old : Node H) (event : Event) (reply : Reply) (new : Node H) : Type 0 where
  pub node : IsSound (A ++ asserted_in old event reply) new
  pub made : (m : Message) → In m (made_in reply) → IsSoundMessage (A ++ asserted_in old event reply) m
  pub renewed : (d : Change) → In d (renewed_in reply) → d.address ≡ old.own

-- messages of one, of the answer, or of none
none_made : (A : List Change) (m : Message) → In m [] → IsSoundMessage A m
none_made A m h = absurd h

one_made : (A : List Change) (m n : Message) → n ≡ m → IsSoundMessage A m → (k : Message) → In k (n ∷ []) → IsSoundMessage A k
one_made A m n e sound k (inl same) = subst (λ (x : Message). IsSoundMessage A x) (sym (same ∙ e)) sound
one_made A m n e sound k (inr h) = absurd h

-- the refutations of a batch are about the node itself
pub refuted_in-own : (own : ℕ) (log : List Change) (cs : List Change) (d : Change) → In d (refuted_in own log cs) → d.address ≡ own
refuted_in-own own log [] d h = absurd h
refuted_in-own own log (c ∷ cs) d h =
    elim (in_append d (refutations own (greatest log own) c) (refuted_in own (log_one own log c) cs) h) [
      | inl k ↦ of_one (greatest log own) refl k
      | inr k ↦ refuted_in-own own (log_one own log c) cs d k
    ]
  where
    of_one : (g : Option Change) → greatest log own ≡ g → In d (refutations own g c) → d.address ≡ own
    of_one None e k = absurd k
    of_one (Some held) e k = by_test (is_refuted own (Some held) c) k
      where
        by_test : (b : Bool) → In d (cond b (refutation held c ∷ []) []) → d.address ≡ own
        by_test true (inl same) = ap (λ (x : Change). x.address) same ∙ address-greatest log own held e
        by_test true (inr j) = absurd j
        by_test false j = absurd j

module _ {H : Type 0} (A : List Change) (old : Node H) (sound : IsSound A old) where
  -- a taking, from the moment that is handed in
  take_sound : (new : Node H) (given : List Sourced) (moment : ℕ) (taken : Taken) → ((s : Sourced) → In s given → IsTold A s)
      → TakeStep old given moment (Ok taken) new → IsSound (A ++ (refuted_in old.own old.members (map change_of given) ++ [])) new
  take_sound new given moment taken news step =
      subst (λ (B : List Change). IsSound (A ++ B) new) (sym (append-nil (refuted_in old.own old.members (map change_of given))))
      (subst (λ (n : Node H). IsSound (A ++ refuted_in old.own old.members (map change_of given)) n) (sym step.new_is)
      (took_all_sound A (at_moment old moment) given (at_sound A old sound moment) news))

  stopped_sound : (new : Node H) (given : List Sourced) (moment : ℕ) (stopped : Stopped) → ((s : Sourced) → In s given → IsTold A s)
      → TakeStep old given moment (Err stopped) new → IsSound (A ++ (refuted_in old.own old.members (take stopped.taken (map change_of given)) ++ [])) new
  stopped_sound new given moment stopped news step =
      subst (λ (B : List Change). IsSound (A ++ B) new) (sym (append-nil (refuted_in old.own old.members (take stopped.taken (map change_of given)))))
      (subst (λ (cs : List Change). IsSound (A ++ refuted_in old.own old.members cs) new) (sym (take-map change_of stopped.taken given))
      (subst (λ (n : Node H). IsSound (A ++ refuted_in old.own old.members (map change_of (take stopped.taken given))) n) (sym step.new_is)
      (took_all_sound A (at_moment old moment) (take stopped.taken given) (at_sound A old sound moment) (λ s h. news s (In-take stopped.taken s given h)))))

  answer_sound : (B : List Change) (mid new : Node H) (source : ℕ) (b : Content) (reply : Message) → IsSound B mid → AnswerStep mid source b reply new
      → IsSound B new × ((m : Message) → In m (reply ∷ []) → IsSoundMessage B m)
  answer_sound B mid new source (content.Join news) reply s step =
      (subst (λ (n : Node H). IsSound B n) (sym step.1) s, one_made B _ reply step.0 (says_sound B mid s _ (full_sync_news B mid s)))
  answer_sound B mid new source (content.Ping news) reply s step = (
    subst (λ (n : Node H). IsSound B n) (sym step.1) (told_sound B mid s source),
    one_made B _ reply step.0 (says_sound B mid s _ (ack_news B mid s news.checksum (piggyback mid source) (piggyback_news B mid s source))),
  )
  answer_sound B mid new source other reply s step = elim step [ ]

  receive_sound : (message : Message) (moment : ℕ) (r : Received) (new : Node H) → IsSoundMessage A message → ReceiveStep old message moment r new
      → StepIsSound A old (call.Receive message moment) (answer.Receive r) new
  receive_sound message moment (received.Done taken) new m step =
      record { node = take_sound new (carried message.content) moment taken m.news step.2; made = none_made _; renewed = λ d h. absurd h }
  receive_sound message moment (received.Answer taken reply) new m step =
      let r = answer_sound _ step.0 new message.source message.content reply (take_sound step.0 (carried message.content) moment taken m.news step.1) step.2 in
      record { node = r.0; made = r.1; renewed = λ d h. absurd h }
  receive_sound message moment (received.NoAnswer taken) new m step =
      record { node = take_sound new (carried message.content) moment taken m.news step.1; made = none_made _; renewed = λ d h. absurd h }
  receive_sound message moment (received.Stopped stopped) new m step =
      record { node = stopped_sound new (carried message.content) moment stopped m.news step.1; made = none_made _; renewed = λ d h. absurd h }
  receive_sound message moment received.NotGossip new m step =
      record { node = sound-nil A new (subst (λ (n : Node H). IsSound A n) (sym step.1) sound); made = none_made _; renewed = λ d h. absurd h }

  is_sound : (after new : Node H) → new ≡ after → IsSound A after → IsSound (A ++ []) new
  is_sound after new e s = sound-nil A new (subst (λ (n : Node H). IsSound A n) (sym e) s)

  -- a call that answers no message and asserts nothing
  quiet : (event : Event) (reply : Reply) (after new : Node H) → asserted_in old event reply ≡ [] → renewed_in reply ≡ [] → made_in reply ≡ [] → new ≡ after → IsSound A after → StepIsSound A old event reply new
  quiet event reply after new a n m e s = record {
    node = subst (λ (B : List Change). IsSound (A ++ B) new) (sym a) (is_sound after new e s);
    made = λ k h. absurd (subst (λ (ms : List Message). In k ms) m h);
    renewed = λ d h. absurd (subst (λ (cs : List Change). In d cs) n h);
  }

  make_sound : (event : Event) (answer_of : Result Message NodeError → Reply) (after new : Node H) (message : Message) (result : Result Message NodeError)
      → ((m : Message) → made_in (answer_of (Ok m)) ≡ m ∷ []) → made_in (answer_of (Err error.Memory)) ≡ []
      → ((r : Result Message NodeError) → renewed_in (answer_of r) ≡ []) → ((r : Result Message NodeError) → asserted_in old event (answer_of r) ≡ [])
      → IsSound A after → IsSoundMessage A message → MakeStep old message after result new → StepIsSound A old event (answer_of result) new
  make_sound event answer_of after new message (Ok made) one none renewed a s m step = record {
    node = subst (λ (B : List Change). IsSound (A ++ B) new) (sym (a (Ok made))) (is_sound after new step.1 s);
    made = λ k h. one_made _ message made step.0 (subst (λ (L : List Change). IsSoundMessage L message) (sym (append-nil A) ∙ ap (λ (B : List Change). A ++ B) (sym (a (Ok made)))) m)
        k (subst (λ (ms : List Message). In k ms) (one made) h);
    renewed = λ d h. absurd (subst (λ (cs : List Change). In d cs) (renewed (Ok made)) h);
  }
  make_sound event answer_of after new message (Err error.Memory) one none renewed a s m step =
      quiet event (answer_of (Err error.Memory)) old new (a (Err error.Memory)) (renewed (Err error.Memory)) none step sound
  make_sound event answer_of after new message (Err other) one none renewed a s m step = elim step [ ]

  suspects_sound : (target moment : ℕ) (change : Option Change) (new : Node H) → target ≢ old.own → Suspects old target moment change new → (after : Node H) × (new ≡ after) × IsSound A after
  suspects_sound target moment change new other step =
      let at = at_sound A old sound moment in
      let put = suspicion_sound A (at_moment old moment) at target change other step.change_is in
      (ended (put_in (at_moment old moment) change), step.new_is, ended_sound A (put_in (at_moment old moment) change) put)

  own_status : (s : Status) → asserts s ≡ true → s ≢ Leave → rank s < 3
  own_status Alive h k = omega arith
  own_status Suspect h k = absurd (false≢true h)
  own_status Faulty h k = absurd (false≢true h)
  own_status Leave h k = absurd (k refl)
  own_status Tombstone h k = absurd (false≢true h)

  held_asserting : asserts sound.held.status ≡ true
  held_asserting = sound.asserting sound.held (held_in A old sound)

  -- leaving and rejoining are assertions past the node's entry
  renewed_sound : (change : Change) (new : Node H) → change.address ≡ old.own → asserts change.status ≡ true → Exceeds change sound.held → new ≡ altered old (asserted_by old.own change) → IsSound (A ++ change ∷ []) new
  renewed_sound change new about asserting past e = subst (λ (n : Node H). IsSound (A ++ change ∷ []) n) (sym e) (altered_own A old sound change about past asserting)

  -- what is made of the node's own entry is about the node itself
  about_own : (change made : Change) → change ≡ made → made.address ≡ (own_change old).address → change.address ≡ old.own
  about_own change made same e =
      ap (λ (c : Change). c.address) same ∙ e ∙ ap (λ (c : Change). c.address) (own_change_is A old sound) ∙ held_about A old sound

  left_sound : (change : Change) (new : Node H) → (own_change old).status ≢ Leave → change ≡ leaving old
      → new ≡ altered old (asserted_by old.own change) → IsSound (A ++ change ∷ []) new
  left_sound change new stays same e =
      let held : own_change old ≡ sound.held = own_change_is A old sound in
      renewed_sound change new (about_own change (leaving old) same refl) (ap (λ (c : Change). asserts c.status) same)
      (inr (
        ap (λ (c : Change). c.incarnation) (sym held) ∙ ap (λ (c : Change). c.incarnation) (sym same),
        inl (subst (λ (c : Change). rank sound.held.status < rank c.status) (sym same)
            (own_status sound.held.status held_asserting (subst (λ (c : Change). c.status ≢ Leave) held stays))),
      ))
      e

  rejoined_sound : (change : Change) (new : Node H) → change ≡ rejoining old
      → new ≡ altered old (asserted_by old.own change) → IsSound (A ++ change ∷ []) new
  rejoined_sound change new same e =
      let next : change.incarnation ≡ sound.held.incarnation + 1 = ap (λ (c : Change). c.incarnation) same ∙ ap (λ (c : Change). c.incarnation + 1) (own_change_is A old sound) in
      renewed_sound change new (about_own change (rejoining old) same refl) (ap (λ (c : Change). asserts c.status) same) (inl (omega (arith, next))) e

  renewed_own : (change : Change) → change.address ≡ old.own → (d : Change) → In d (change ∷ []) → d.address ≡ old.own
  renewed_own change e d (inl same) = ap (λ (c : Change). c.address) same ∙ e
  renewed_own change e d (inr h) = absurd h

  pub step_sound : (hash_of : H → List ℕ → ℕ) (messages : List Message) (event : Event) (reply : Reply) (new : Node H)
      → ((m : Message) → In m messages → IsSoundMessage A m) → Comes messages event → NodeStep hash_of old event reply new → StepIsSound A old event reply new
  step_sound hash_of ms (call.Take given moment) (answer.Take result) new told comes step = absurd comes
  step_sound hash_of ms (call.Receive message moment) (answer.Receive r) new told comes step = receive_sound message moment r new (told message comes) step
  step_sound hash_of ms call.JoinMessage (answer.JoinMessage result) new told comes step =
      make_sound call.JoinMessage (λ r. answer.JoinMessage r) _ new _ result (λ m. refl) refl (λ r. refl) (λ r. refl) sound (says_sound A old sound _ (own_news A old sound)) step
  step_sound hash_of ms (call.PingTo target) (answer.PingTo result) new told comes step =
      make_sound (call.PingTo target) (λ r. answer.PingTo r) _ new _ result (λ m. refl) refl (λ r. refl) (λ r. refl) (told_sound A old sound target)
      (says_sound A old sound _ (piggyback_news A old sound target)) step
  step_sound hash_of ms (call.PingReqTo helper target) (answer.PingReqTo result) new told comes step =
      make_sound (call.PingReqTo helper target) (λ r. answer.PingReqTo r) _ new _ result (λ m. refl) refl (λ r. refl) (λ r. refl) (told_sound A old sound helper)
      (says_sound A old sound _ (piggyback_news A old sound helper)) step
  step_sound hash_of ms (call.PingReqAckTo requester target reached) (answer.PingReqAckTo result) new told comes step =
      make_sound (call.PingReqAckTo requester target reached) (λ r. answer.PingReqAckTo r) _ new _ result (λ m. refl) refl (λ r. refl) (λ r. refl) (told_sound A old sound requester)
      (says_sound A old sound _ (piggyback_news A old sound requester)) step
  step_sound hash_of ms call.Leave (answer.Leave (Ok change)) new told comes step =
      record { node = left_sound change new step.0 step.1 step.2; made = none_made _; renewed = renewed_own change (about_own change (leaving old) step.1 refl) }
  step_sound hash_of ms call.Leave (answer.Leave (Err error.AlreadyLeft)) new told comes step = quiet _ _ old new refl refl refl step.1 sound
  step_sound hash_of ms call.Leave (answer.Leave (Err error.Memory)) new told comes step = quiet _ _ old new refl refl refl step.1 sound
  step_sound hash_of ms call.Rejoin (answer.Rejoin (Ok change)) new told comes step =
      record { node = rejoined_sound change new step.2 step.3; made = none_made _; renewed = renewed_own change (about_own change (rejoining old) step.2 refl) }
  step_sound hash_of ms call.Rejoin (answer.Rejoin (Err error.NotLeft)) new told comes step = quiet _ _ old new refl refl refl step.1 sound
  step_sound hash_of ms call.Rejoin (answer.Rejoin (Err error.Exhausted)) new told comes step = quiet _ _ old new refl refl refl step.2 sound
  step_sound hash_of ms call.Rejoin (answer.Rejoin (Err error.Memory)) new told comes step = quiet _ _ old new refl refl refl step.2 sound
  step_sound hash_of ms (call.Expire moment) (answer.Expire (Ok None)) new told comes step = quiet _ _ _ new refl refl refl step.1 (at_sound A old sound moment)
  step_sound hash_of ms (call.Expire moment) (answer.Expire (Ok (Some change))) new told comes step =
      quiet _ _ _ new refl refl refl step.3 (expiry_sound A (at_moment old moment) (at_sound A old sound moment) step.0 change step.1 step.2)
  step_sound hash_of ms (call.Expire moment) (answer.Expire (Err error.Memory)) new told comes step = quiet _ _ old new refl refl refl step.1 sound
  step_sound hash_of ms call.Probe (answer.Probe (Ok (Some pick))) new told comes step =
      quiet _ _ _ new refl refl refl step.2 (probing_sound A old sound new.probing (others-pick old pick new.probing step.1))
  step_sound hash_of ms call.Probe (answer.Probe (Ok None)) new told comes step = quiet _ _ old new refl refl refl step.3 sound
  step_sound hash_of ms call.Probe (answer.Probe (Err error.Busy)) new told comes step = quiet _ _ old new refl refl refl step.1 sound
  step_sound hash_of ms call.Probe (answer.Probe (Err error.Spent)) new told comes step = quiet _ _ old new refl refl refl step.2 sound
  step_sound hash_of ms call.Probe (answer.Probe (Err error.Memory)) new told comes step = quiet _ _ old new refl refl refl step.3 sound
  step_sound hash_of ms (call.Acked number) (answer.Acked (Ok done)) new told comes step = quiet _ _ _ new refl refl refl step.1 (ended_sound A old sound)
  step_sound hash_of ms (call.Acked number) (answer.Acked (Err error.StaleProbe)) new told comes step = quiet _ _ old new refl refl refl step.1 sound
  step_sound hash_of ms (call.Lost number moment) (answer.Lost (Ok (lost.Ask helpers))) new told comes step =
      quiet _ _ _ new refl refl refl step.3
      (probing_sound A (at_moment old moment) (at_sound A old sound moment) new.probing
      (others-lost old.own old.probing sound.others (pingable old) step.0 helpers new.probing (unasked_other old.own old.probing sound.others number step.0 step.1) step.2))
  step_sound hash_of ms (call.Lost number moment) (answer.Lost (Ok (lost.Suspect change))) new told comes step =
      let r = suspects_sound step.0 moment change new (unasked_other old.own old.probing sound.others number step.0 step.1) step.3 in quiet _ _ r.0 new refl refl refl r.1 r.2
  step_sound hash_of ms (call.Lost number moment) (answer.Lost (Err error.StaleProbe)) new told comes step = quiet _ _ old new refl refl refl step.1 sound
  step_sound hash_of ms (call.Lost number moment) (answer.Lost (Err error.Memory)) new told comes step = quiet _ _ old new refl refl refl step.3 sound
  step_sound hash_of ms (call.HelperSaid number helper said moment) (answer.HelperSaid (Ok answered.Waiting)) new told comes step =
      quiet _ _ _ new refl refl refl step.1
      (probing_sound A (at_moment old moment) (at_sound A old sound moment) _ (others-waiting old.own old.probing sound.others helper said))
  step_sound hash_of ms (call.HelperSaid number helper said moment) (answer.HelperSaid (Ok answered.Reached)) new told comes step =
      quiet _ _ _ new refl refl refl step.1 (ended_sound A (at_moment old moment) (at_sound A old sound moment))
  step_sound hash_of ms (call.HelperSaid number helper said moment) (answer.HelperSaid (Ok (answered.Suspect change))) new told comes step =
      let r = suspects_sound step.0 moment change new (running_other old.own old.probing sound.others number step.0 step.2) step.3 in quiet _ _ r.0 new refl refl refl r.1 r.2
  step_sound hash_of ms (call.HelperSaid number helper said moment) (answer.HelperSaid (Ok answered.Inconclusive)) new told comes step =
      quiet _ _ _ new refl refl refl step.1 (ended_sound A (at_moment old moment) (at_sound A old sound moment))
  step_sound hash_of ms (call.HelperSaid number helper said moment) (answer.HelperSaid (Err error.StaleProbe)) new told comes step = quiet _ _ old new refl refl refl step.1 sound
  step_sound hash_of ms (call.HelperSaid number helper said moment) (answer.HelperSaid (Err error.NotAsked)) new told comes step = quiet _ _ old new refl refl refl step.1 sound
  step_sound hash_of ms (call.HelperSaid number helper said moment) (answer.HelperSaid (Err error.Memory)) new told comes step = quiet _ _ old new refl refl refl step.4 sound
  step_sound hash_of ms call.Own (answer.Own change) new told comes step = quiet _ _ old new refl refl refl step.1 sound
  step_sound hash_of ms (call.Member a) (answer.Member entry) new told comes step = quiet _ _ old new refl refl refl step.1 sound
  step_sound hash_of ms call.Len (answer.Len n) new told comes step = quiet _ _ old new refl refl refl step.1 sound
  step_sound hash_of ms (call.Owner key) (answer.Owner owner) new told comes step = quiet _ _ old new refl refl refl step.1 sound
  step_sound hash_of ms (call.Owners key n) (answer.Owners result) new told comes step = quiet _ _ old new refl refl refl step.1 sound
  step_sound hash_of ms call.Members (answer.Members result) new told comes step = quiet _ _ old new refl refl refl step.1 sound
  step_sound hash_of ms call.DigestText (answer.DigestText result) new told comes step = quiet _ _ old new refl refl refl step.1 sound
  step_sound hash_of ms call.Digest (answer.Digest result) new told comes step = quiet _ _ old new refl refl refl step.1 sound
  step_sound hash_of ms call.Running (answer.Running running) new told comes step = quiet _ _ old new refl refl refl step.1 sound
  step_sound hash_of ms event reply new told comes step = elim step [ ]
