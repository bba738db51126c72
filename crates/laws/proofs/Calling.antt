-- What a node holds after a call, and what the call's message tells: what the node held, what it was given, what it asserts, and what it says.
use Rattle.std.proofs.Common.{◌≡◌, ◌≢◌, ◌⊎◌, ℕ, ◌<◌, ◌≤◌, arith, eqb, not, cond, Bool, true, false, List, [], ◌∷◌, Option, Some, None, Result, Ok, Err, refl, sym, ◌∙◌, ap, subst, inl, inr, map, take}
use Rattle.std.proofs.lemmas.List.{take-map}
use Rattle.std.proofs.lemmas.Bool.{and_parts, eqb-false, false≢true, leb-true, not-true}
use Rattle.change_core.specs.declared.changes.Change.{Change}
use Rattle.change_core.specs.declared.changes.Sourced.{Sourced}
use Rattle.change_core.specs.declared.digests.Digest.{Digest}
use Rattle.change_core.specs.declared.statuses.Status.{Status}
use Rattle.change_core.specs.declared.statuses.Status.TheVariants.{Alive, Suspect, Faulty, Leave, Tombstone}
use Rattle.change_core.specs.Ascending.{In}
use Rattle.change_core.specs.Change.{change_of, Exceeds}
use Rattle.change_core.specs.Members.{greatest, alters, IsMemberList}
use Rattle.change_core.specs.Status.{rank}
use Rattle.change_core.proofs.Precedence.{exceeds-true}
use Rattle.detector_core.specs.declared.asked.Outcome.TheVariants as outcome
use Rattle.detector_core.specs.declared.timers.Timer.{Timer}
use Rattle.detector_core.specs.Probing.{ProbeState, after_saying}
use Rattle.gossip_core.specs.Dissemination.{Dissemination}
use Rattle.hash_ring.proofs.ListMembers.{map_in}
use Rattle.message_core.specs.declared.messages.Message.{Message}
use Rattle.message_core.specs.declared.messages.Content.{Content}
use Rattle.message_core.specs.declared.messages.Content.TheVariants as content
use Rattle.node_core.specs.declared.errors.NodeError.{NodeError}
use Rattle.node_core.specs.declared.errors.NodeError.TheVariants as error
use Rattle.node_core.specs.declared.events.Event.{Event}
use Rattle.node_core.specs.declared.events.Event.TheVariants as call
use Rattle.node_core.specs.declared.events.Reply.{Reply}
use Rattle.node_core.specs.declared.events.Reply.TheVariants as answer
use Rattle.node_core.specs.declared.events.Received.{Received}
use Rattle.node_core.specs.declared.events.Received.TheVariants as received
use Rattle.node_core.specs.declared.events.NodeLost.TheVariants as lost
use Rattle.node_core.specs.declared.events.NodeOutcome.TheVariants as answered
use Rattle.node_core.specs.Asserting.{leaving, rejoining}
use Rattle.node_core.specs.Expiring.{due, expired, is_due, is_reached, timer_of}
use Rattle.node_core.specs.Messages.{carried, full_sync, piggyback, told, digest_of, is_same_digest, ack_changes}
use Rattle.node_core.specs.Node.{Node, altered, asserted_by, asserts, at_moment, has_deadline, is_timed, next_status, or_birth, own_change, pingable, said_by}
use Rattle.node_core.specs.Probes.{ended, Suspects}
use Rattle.node_core.specs.Receiving.{AnswerStep, ReceiveStep, MakeStep}
use Rattle.node_core.specs.Run.{given_in, said_in, change_in}
use Rattle.node_core.specs.Step.{NodeStep}
use Rattle.node_core.specs.Taking.{took_all}
use Rattle.node_core.specs.World.{made_in}
use Rattle.node_core.proofs.Listed.{address-greatest, greatest-member, In-find, In-greatest, In-issued, In-map}
use Rattle.node_core.proofs.Probed.{IsOfOther, running_other, unasked_other, others-lost, others-waiting, others-pick}
use Rattle.node_core.proofs.Suspecting.{suspicion-some}
use Rattle.laws.specs.Witnesses.{Holds, Tells}
use Rattle.laws.proofs.Altering.{Alters, Alters-none, Alters-same, Alters-then, Alters-altered, Alters-told, Alters-took_all, HoldsItself, took_all-kept}

-- what a call may put in: what it was given, what its node asserts, and what it says
abbrev pub Puts : Event → Reply → Change → Type 0
Puts event reply c = In c (given_in event reply) ⊎ ((asserts c.status ≡ true) ⊎ In c (said_in reply))

-- what a call comes to
pub record IsCallOf {H : Type 0} (old : Node H) (event : Event) (reply : Reply) (new : Node H) : Type 0 where
  pub alters : Alters (Puts event reply) old new
  pub others : IsOfOther old.own new.probing
  pub told : (message : Message) (c : Change) → In message (made_in reply) → Tells message c → Holds old c ⊎ Puts event reply c

-- what a node tells, it holds or passes on

sync_told : {H : Type 0} (node : Node H) (s : Sourced) → In s (full_sync node) → Holds node s.change
sync_told node s h =
    let r = In-map (said_by node) s node.members h in
    inl (subst (λ (c : Change). In c node.members) (ap (λ (t : Sourced). t.change) r.2) r.1)

piggyback_told : {H : Type 0} (node : Node H) (target : ℕ) (s : Sourced) → In s (piggyback node target) → Holds node s.change
piggyback_told node target s h =
    let r = In-issued target node.config.per_message node.gossip.pending s h in
    inr (r.0, r.1, ap (λ (t : Sourced). t.change) r.2)

ack_told : {H : Type 0} (node : Node H) (checksum : Digest) (L : List Sourced) → ((s : Sourced) → In s L → Holds node s.change) → (s : Sourced) → In s (ack_changes node checksum L) → Holds node s.change
ack_told node checksum (t ∷ L) holds s h = holds s h
ack_told node checksum [] holds s h = by_digest (is_same_digest checksum (digest_of node.members)) h
  where
    by_digest : (b : Bool) → In s (cond b [] (full_sync node)) → Holds node s.change
    by_digest true k = absurd k
    by_digest false k = sync_told node s k

-- an entry that is due: another's, which has a deadline and a timer that has reached it
pub record IsDue {H : Type 0} (node : Node H) (moment : ℕ) (entry : Change) : Type 0 where
  pub held : greatest node.members entry.address ≡ Some entry
  pub another : entry.address ≢ node.own
  pub dated : has_deadline entry.status ≡ true
  pub timer : Timer
  pub timer_is : timer_of node.timers entry.address ≡ Some timer
  pub reached : timer.deadline ≤ (at_moment node moment).moment

pub due_parts : {H : Type 0} (node : Node H) → IsMemberList node.members → (moment : ℕ) (entry : Change) → due (at_moment node moment) ≡ Some entry → IsDue node moment entry
due_parts node listed moment entry e =
    let found = In-find (is_due (at_moment node moment)) entry node.members e in
    let parts = and_parts (is_timed node.own entry) (is_reached (at_moment node moment).moment (timer_of node.timers entry.address)) found.1 in
    let timed = and_parts (has_deadline entry.status) (not (eqb entry.address node.own)) parts.0 in
    by_timer (greatest-member node.members entry listed found.0) (eqb-false entry.address node.own (not-true (eqb entry.address node.own) timed.1)) timed.0 (timer_of node.timers entry.address) refl parts.1
  where
    by_timer : greatest node.members entry.address ≡ Some entry → entry.address ≢ node.own → has_deadline entry.status ≡ true
        → (o : Option Timer) → timer_of node.timers entry.address ≡ o → is_reached (at_moment node moment).moment o ≡ true → IsDue node moment entry
    by_timer held another dated None t h = absurd (false≢true h)
    by_timer held another dated (Some u) t h =
        record { held = held; another = another; dated = dated; timer = u; timer_is = t; reached = leb-true u.deadline (at_moment node moment).moment h }

module _ {H : Type 0} (hash_of : H → List ℕ → ℕ) (old : Node H) (listed : IsMemberList old.members) (itself : HoldsItself old) (others : IsOfOther old.own old.probing) where
  -- no message, or this one

  none_told : (Q : Change → Type 0) (ms : List Message) → ms ≡ [] → (message : Message) (c : Change) → In message ms → Tells message c → Holds old c ⊎ Q c
  none_told Q ms e message c h t = absurd (subst (λ (L : List Message). In message L) e h)

  one_told : (Q : Change → Type 0) (ms : List Message) (made is : Message) → ms ≡ made ∷ [] → made ≡ is → ((s : Sourced) → In s (carried is.content) → Holds old s.change ⊎ Q s.change)
      → (message : Message) (c : Change) → In message ms → Tells message c → Holds old c ⊎ Q c
  one_told Q ms made is e same holds message c h (s, k, about) =
      subst (λ (x : Change). Holds old x ⊎ Q x) about (holds s (subst (λ (m : Message). In s (carried m.content)) (of_one (subst (λ (L : List Message). In message L) e h) ∙ same) k))
    where
      of_one : In message (made ∷ []) → message ≡ made
      of_one (inl i) = i
      of_one (inr j) = absurd j

  -- a call that puts nothing in and makes no message
  quiet : (event : Event) (reply : Reply) (after new : Node H) → after.own ≡ old.own → after.config ≡ old.config → after.members ≡ old.members → after.timers ≡ old.timers
      → ((c : Change) → Holds after c → Holds old c) → IsOfOther old.own after.probing → made_in reply ≡ [] → new ≡ after → IsCallOf old event reply new
  quiet event reply after new o f m t holds other none e = subst (λ (n : Node H). IsCallOf old event reply n) (sym e) (record {
    alters = Alters-none (Puts event reply) old after o f m t holds;
    others = other;
    told = none_told (Puts event reply) (made_in reply) none;
  })

  same : (event : Event) (reply : Reply) (new : Node H) → made_in reply ≡ [] → new ≡ old → IsCallOf old event reply new
  same event reply new none e = quiet event reply old new refl refl refl refl (λ c h. h) others none e

  -- the making of a message
  make : (event : Event) (answer_of : Result Message NodeError → Reply) (after new : Node H) (message : Message) (result : Result Message NodeError)
      → ((m : Message) → made_in (answer_of (Ok m)) ≡ m ∷ []) → made_in (answer_of (Err error.Memory)) ≡ []
      → ((Q : Change → Type 0) → Alters Q old after) → IsOfOther old.own after.probing → ((s : Sourced) → In s (carried message.content) → Holds old s.change)
      → MakeStep old message after result new → IsCallOf old event (answer_of result) new
  make event answer_of after new message (Ok made) one none alters other holds step = subst (λ (n : Node H). IsCallOf old event (answer_of (Ok made)) n) (sym step.1) (record {
    alters = alters (Puts event (answer_of (Ok made)));
    others = other;
    told = one_told (Puts event (answer_of (Ok made))) (made_in (answer_of (Ok made))) made message (one made) step.0 (λ s h. inl (holds s h));
  })
  make event answer_of after new message (Err error.Memory) one none alters other holds step = same event (answer_of (Err error.Memory)) new none step
  make event answer_of after new message (Err refused) one none alters other holds step = elim step [ ]

  own_told : (s : Sourced) → In s (said_by old (own_change old) ∷ []) → Holds old s.change
  own_told s (inl e) =
      inl (subst (λ (c : Change). In c old.members) (sym (ap (λ (t : Sourced). t.change) e ∙ ap (or_birth old.own) itself.1)) (In-greatest old.members old.own itself.0 itself.1))
  own_told s (inr k) = absurd k

  -- the taking of a batch
  module _ (event : Event) (reply : Reply) (moment : ℕ) (given : List Sourced) (is : given_in event reply ≡ map change_of given) where
    took : Alters (Puts event reply) old (took_all (at_moment old moment) given)
    took = Alters-then (Puts event reply) old (at_moment old moment) (took_all (at_moment old moment) given)
        (Alters-none (Puts event reply) old (at_moment old moment) refl refl refl refl (λ c h. h))
        (Alters-took_all (Puts event reply) (at_moment old moment) given
        (λ s h. inl (subst (λ (cs : List Change). In s.change cs) (sym is) (map_in change_of s given h))) (λ c h. inr (inl h)) itself)
        (took_all-kept (λ (n : Node H). n.moment) (λ n s. refl) (at_moment old moment) given)

    took_others : IsOfOther old.own (took_all (at_moment old moment) given).probing
    took_others = subst (λ (x : ProbeState). IsOfOther old.own x) (sym (took_all-kept (λ (n : Node H). n.probing) (λ n s. refl) (at_moment old moment) given)) others

    taking : (new : Node H) → made_in reply ≡ [] → new ≡ took_all (at_moment old moment) given → IsCallOf old event reply new
    taking new none e = subst (λ (n : Node H). IsCallOf old event reply n) (sym e)
        (record { alters = took; others = took_others; told = none_told (Puts event reply) (made_in reply) none })

    -- and the answer to the message that brought it
    answering : (mid new : Node H) (source : ℕ) (b : Content) (made : Message) → made_in reply ≡ made ∷ [] → mid ≡ took_all (at_moment old moment) given
        → AnswerStep mid source b made new → IsCallOf old event reply new
    answering mid new source b made one e step = by_content b (subst (λ (n : Node H). Alters (Puts event reply) old n) (sym e) took) (subst (λ (n : Node H). IsOfOther old.own n.probing) (sym e) took_others) step
      where
        by_content : (b : Content) → Alters (Puts event reply) old mid → IsOfOther old.own mid.probing → AnswerStep mid source b made new → IsCallOf old event reply new
        by_content (content.Join news) alters other step = subst (λ (n : Node H). IsCallOf old event reply n) (sym step.1) (record {
          alters = alters;
          others = other;
          told = one_told (Puts event reply) (made_in reply) made _ one step.0 (λ s h. alters.known s.change (sync_told mid s h));
        })
        by_content (content.Ping news) alters other step = subst (λ (n : Node H). IsCallOf old event reply n) (sym step.1) (record {
          alters = Alters-then (Puts event reply) old mid (told mid source) alters (Alters-told (Puts event reply) mid source) refl;
          others = other;
          told = one_told (Puts event reply) (made_in reply) made _ one step.0
              (λ s h. alters.known s.change (ack_told mid news.checksum (piggyback mid source) (piggyback_told mid source) s h));
        })
        by_content other alters o step = elim step [ ]

  receiving : (message : Message) (moment : ℕ) (r : Received) (new : Node H) → ReceiveStep old message moment r new → IsCallOf old (call.Receive message moment) (answer.Receive r) new
  receiving message moment (received.Done t) new step =
      taking (call.Receive message moment) (answer.Receive (received.Done t)) moment (carried message.content) refl new refl step.2.new_is
  receiving message moment (received.Answer t made) new step =
      answering (call.Receive message moment) (answer.Receive (received.Answer t made)) moment (carried message.content) refl step.0 new message.source message.content made refl step.1.new_is step.2
  receiving message moment (received.NoAnswer t) new step =
      taking (call.Receive message moment) (answer.Receive (received.NoAnswer t)) moment (carried message.content) refl new refl step.1.new_is
  receiving message moment (received.Stopped s) new step =
      taking (call.Receive message moment) (answer.Receive (received.Stopped s)) moment (take s.taken (carried message.content)) (take-map change_of s.taken (carried message.content)) new refl step.1.new_is
  receiving message moment received.NotGossip new step = same (call.Receive message moment) (answer.Receive received.NotGossip) new refl step.1

  -- one change is put in: of another news, of itself an assertion
  putting : (event : Event) (reply : Reply) (start new : Node H) (s : Sourced) → made_in reply ≡ [] → start.own ≡ old.own → start.config ≡ old.config → start.members ≡ old.members
      → start.timers ≡ old.timers → start.gossip ≡ old.gossip → IsOfOther old.own start.probing → Puts event reply s.change
      → (s.change.address ≢ old.own → alters (greatest old.members s.change.address) s.change ≡ true) → (s.change.address ≡ old.own → asserts s.change.status ≡ true)
      → new ≡ altered start s → IsCallOf old event reply new
  putting event reply start new s none o f m t g p puts news own e = subst (λ (n : Node H). IsCallOf old event reply n) (sym e) (record {
    alters = Alters-then (Puts event reply) old start (altered start s)
        (Alters-none (Puts event reply) old start o f m t (λ c h. holds c h))
        (Alters-altered (Puts event reply) start s puts
        (λ other. ap (λ (M : List Change). alters (greatest M s.change.address) s.change) m ∙ news (λ i. other (i ∙ sym o))) (λ about. own (about ∙ o)))
        refl;
    others = p;
    told = none_told (Puts event reply) (made_in reply) none;
  })
    where
      holds : (c : Change) → Holds start c → Holds old c
      holds c (inl h) = inl (subst (λ (M : List Change). In c M) m h)
      holds c (inr (q, h, i)) = inr (q, subst (λ (d : Dissemination). In q d.pending) g h, i)

  own_is : own_change old ≡ itself.0
  own_is = ap (or_birth old.own) itself.1

  -- a leave or a rejoin
  renewing : (event : Event) (reply : Reply) (change made : Change) (new : Node H) → made_in reply ≡ [] → change ≡ made → made.address ≡ (own_change old).address
      → asserts made.status ≡ true → new ≡ altered old (asserted_by old.own change) → IsCallOf old event reply new
  renewing event reply change made new none is about stays e =
      let mine : asserts change.status ≡ true = ap (λ (c : Change). asserts c.status) is ∙ stays in
      putting event reply old new (asserted_by old.own change) none refl refl refl refl refl others (inr (inl mine))
      (λ other. absurd (other (ap (λ (c : Change). c.address) is ∙ about ∙ ap (λ (c : Change). c.address) own_is ∙ address-greatest old.members old.own itself.0 itself.1)))
      (λ own. mine) e

  rank_next : (s : Status) → has_deadline s ≡ true → rank s < rank (next_status s)
  rank_next Alive h = absurd (false≢true h)
  rank_next Suspect h = omega arith
  rank_next Faulty h = omega arith
  rank_next Leave h = absurd (false≢true h)
  rank_next Tombstone h = absurd (false≢true h)

  -- an entry at its deadline
  expiring : (moment : ℕ) (entry change : Change) (new : Node H) → due (at_moment old moment) ≡ Some entry → change ≡ expired entry → new ≡ altered (at_moment old moment) (said_by old change)
      → IsCallOf old (call.Expire moment) (answer.Expire (Ok (Some change))) new
  expiring moment entry change new e becomes is =
      let d = due_parts old listed moment entry e in
      putting (call.Expire moment) (answer.Expire (Ok (Some change))) (at_moment old moment) new (said_by old change) refl refl refl refl refl refl others (inr (inr (inl refl)))
      (λ other. subst (λ (c : Change). alters (greatest old.members c.address) c ≡ true) (sym becomes)
      (ap (λ o. alters o (expired entry)) d.held ∙ exceeds-true (expired entry) entry (inr (refl, inl (rank_next entry.status d.dated)))))
      (λ own. absurd (d.another (ap (λ (c : Change). c.address) (sym becomes) ∙ own))) is

  -- a verdict
  suspecting : (event : Event) (reply : Reply) (target moment : ℕ) (change : Option Change) (new : Node H) → made_in reply ≡ [] → said_in reply ≡ change_in change → target ≢ old.own
      → Suspects old target moment change new → IsCallOf old event reply new
  suspecting event reply target moment None new none says other step =
      quiet event reply (ended (at_moment old moment)) new refl refl refl refl (λ c h. h) (λ p e. cc) none step.new_is
  suspecting event reply target moment (Some c) new none says other step =
      let s = suspicion-some old.members target c (sym step.change_is) in
      let about : c.address ≡ target = ap (λ (x : Change). x.address) s.same ∙ address-greatest old.members target s.held s.held_is in
      putting event reply (ended (at_moment old moment)) new (said_by (at_moment old moment) c) none refl refl refl refl refl (λ p e. cc)
      (inr (inr (subst (λ (cs : List Change). In c cs) (sym says) (inl refl))))
      (λ k. ap (λ (a : ℕ). alters (greatest old.members a) c) about ∙ ap (λ o. alters o c) s.held_is
      ∙ exceeds-true c s.held (subst (λ (x : Change). Exceeds x s.held) (sym s.same) (inr (refl, inl (subst (λ (t : Status). rank t < 1) (sym s.alive) (omega arith))))))
      (λ own. absurd (other (sym about ∙ own))) step.new_is

  pub calls_are : (event : Event) (reply : Reply) (new : Node H) → NodeStep hash_of old event reply new → IsCallOf old event reply new
  calls_are (call.Take given moment) (answer.Take (Ok t)) new step = taking (call.Take given moment) (answer.Take (Ok t)) moment given refl new refl step.new_is
  calls_are (call.Take given moment) (answer.Take (Err s)) new step =
      taking (call.Take given moment) (answer.Take (Err s)) moment (take s.taken given) (take-map change_of s.taken given) new refl step.new_is
  calls_are (call.Receive message moment) (answer.Receive r) new step = receiving message moment r new step
  calls_are call.JoinMessage (answer.JoinMessage result) new step =
      make call.JoinMessage (λ r. answer.JoinMessage r) _ new _ result (λ m. refl) refl (λ Q. Alters-same Q old old refl) others own_told step
  calls_are (call.PingTo target) (answer.PingTo result) new step =
      make (call.PingTo target) (λ r. answer.PingTo r) _ new _ result (λ m. refl) refl (λ Q. Alters-told Q old target) others (piggyback_told old target) step
  calls_are (call.PingReqTo helper target) (answer.PingReqTo result) new step =
      make (call.PingReqTo helper target) (λ r. answer.PingReqTo r) _ new _ result (λ m. refl) refl (λ Q. Alters-told Q old helper) others (piggyback_told old helper) step
  calls_are (call.PingReqAckTo requester target reached) (answer.PingReqAckTo result) new step =
      make (call.PingReqAckTo requester target reached) (λ r. answer.PingReqAckTo r) _ new _ result (λ m. refl) refl (λ Q. Alters-told Q old requester) others (piggyback_told old requester) step
  calls_are call.Leave (answer.Leave (Ok change)) new step = renewing _ _ change (leaving old) new refl step.1 refl refl step.2
  calls_are call.Leave (answer.Leave (Err error.AlreadyLeft)) new step = same _ _ new refl step.1
  calls_are call.Leave (answer.Leave (Err error.Memory)) new step = same _ _ new refl step.1
  calls_are call.Rejoin (answer.Rejoin (Ok change)) new step = renewing _ _ change (rejoining old) new refl step.2 refl refl step.3
  calls_are call.Rejoin (answer.Rejoin (Err error.NotLeft)) new step = same _ _ new refl step.1
  calls_are call.Rejoin (answer.Rejoin (Err error.Exhausted)) new step = same _ _ new refl step.2
  calls_are call.Rejoin (answer.Rejoin (Err error.Memory)) new step = same _ _ new refl step.2
  calls_are (call.Expire moment) (answer.Expire (Ok None)) new step = quiet _ _ (at_moment old moment) new refl refl refl refl (λ c h. h) others refl step.1
  calls_are (call.Expire moment) (answer.Expire (Ok (Some change))) new step = expiring moment step.0 change new step.1 step.2 step.3
  calls_are (call.Expire moment) (answer.Expire (Err error.Memory)) new step = same _ _ new refl step.1
  calls_are call.Probe (answer.Probe (Ok (Some pick))) new step =
      quiet _ _ (record old { probing = new.probing }) new refl refl refl refl (λ c h. h) (others-pick old pick new.probing step.1) refl step.2
  calls_are call.Probe (answer.Probe (Ok None)) new step = same _ _ new refl step.3
  calls_are call.Probe (answer.Probe (Err error.Busy)) new step = same _ _ new refl step.1
  calls_are call.Probe (answer.Probe (Err error.Spent)) new step = same _ _ new refl step.2
  calls_are call.Probe (answer.Probe (Err error.Memory)) new step = same _ _ new refl step.3
  calls_are (call.Acked number) (answer.Acked (Ok done)) new step = quiet _ _ (ended old) new refl refl refl refl (λ c h. h) (λ p e. cc) refl step.1
  calls_are (call.Acked number) (answer.Acked (Err error.StaleProbe)) new step = same _ _ new refl step.1
  calls_are (call.Lost number moment) (answer.Lost (Ok (lost.Ask helpers))) new step =
      quiet _ _ (record (at_moment old moment) { probing = new.probing }) new refl refl refl refl (λ c h. h)
      (others-lost old.own old.probing others (pingable old) step.0 helpers new.probing (unasked_other old.own old.probing others number step.0 step.1) step.2) refl step.3
  calls_are (call.Lost number moment) (answer.Lost (Ok (lost.Suspect change))) new step =
      suspecting _ _ step.0 moment change new refl refl (unasked_other old.own old.probing others number step.0 step.1) step.3
  calls_are (call.Lost number moment) (answer.Lost (Err error.StaleProbe)) new step = same _ _ new refl step.1
  calls_are (call.Lost number moment) (answer.Lost (Err error.Memory)) new step = same _ _ new refl step.3
  calls_are (call.HelperSaid number helper said moment) (answer.HelperSaid (Ok answered.Waiting)) new step =
      quiet _ _ (record (at_moment old moment) { probing = after_saying old.probing helper said outcome.Waiting }) new refl refl refl refl (λ c h. h)
      (others-waiting old.own old.probing others helper said) refl step.1
  calls_are (call.HelperSaid number helper said moment) (answer.HelperSaid (Ok answered.Reached)) new step =
      quiet _ _ (ended (at_moment old moment)) new refl refl refl refl (λ c h. h) (λ p e. cc) refl step.1
  calls_are (call.HelperSaid number helper said moment) (answer.HelperSaid (Ok (answered.Suspect change))) new step =
      suspecting _ _ step.0 moment change new refl refl (running_other old.own old.probing others number step.0 step.2) step.3
  calls_are (call.HelperSaid number helper said moment) (answer.HelperSaid (Ok answered.Inconclusive)) new step =
      quiet _ _ (ended (at_moment old moment)) new refl refl refl refl (λ c h. h) (λ p e. cc) refl step.1
  calls_are (call.HelperSaid number helper said moment) (answer.HelperSaid (Err error.StaleProbe)) new step = same _ _ new refl step.1
  calls_are (call.HelperSaid number helper said moment) (answer.HelperSaid (Err error.NotAsked)) new step = same _ _ new refl step.1
  calls_are (call.HelperSaid number helper said moment) (answer.HelperSaid (Err error.Memory)) new step = same _ _ new refl step.4
  calls_are call.Own (answer.Own change) new step = same _ _ new refl step.1
  calls_are (call.Member a) (answer.Member entry) new step = same _ _ new refl step.1
  calls_are call.Len (answer.Len n) new step = same _ _ new refl step.1
  calls_are (call.Owner key) (answer.Owner owner) new step = same _ _ new refl step.1
  calls_are (call.Owners key n) (answer.Owners result) new step = same _ _ new refl step.1
  calls_are call.Members (answer.Members result) new step = same _ _ new refl step.1
  calls_are call.DigestText (answer.DigestText result) new step = same _ _ new refl step.1
  calls_are call.Digest (answer.Digest result) new step = same _ _ new refl step.1
  calls_are call.Running (answer.Running running) new step = same _ _ new refl step.1
  calls_are event reply new step = elim step [ ]
