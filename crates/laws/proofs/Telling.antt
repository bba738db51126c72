-- What the messages tell that a call makes.
use Rattle.std.proofs.Common.{◌≡◌, ℕ, Bool, true, false, cond, List, [], ◌∷◌, Option, Some, None, Ok, Err, refl, sym, ◌∙◌, ap, subst, inl, inr}
use Rattle.change_core.specs.declared.changes.Change.{Change}
use Rattle.change_core.specs.declared.changes.Sourced.{Sourced}
use Rattle.change_core.specs.declared.digests.Digest.{Digest}
use Rattle.change_core.specs.Ascending.{In}
use Rattle.change_core.specs.Members.{greatest}
use Rattle.change_core.proofs.Members.{IsGreatest-greatest}
use Rattle.message_core.specs.declared.messages.Content.{Content}
use Rattle.message_core.specs.declared.messages.Content.TheVariants as content
use Rattle.message_core.specs.declared.messages.Message.{Message}
use Rattle.node_core.specs.declared.errors.NodeError.TheVariants as error
use Rattle.node_core.specs.declared.events.Event.{Event}
use Rattle.node_core.specs.declared.events.Event.TheVariants as event
use Rattle.node_core.specs.declared.events.NodeLost.TheVariants as lost
use Rattle.node_core.specs.declared.events.NodeOutcome.TheVariants as answered
use Rattle.node_core.specs.declared.events.Received.TheVariants as received
use Rattle.node_core.specs.declared.events.Reply.{Reply}
use Rattle.node_core.specs.declared.events.Reply.TheVariants as reply
use Rattle.node_core.specs.Invariant.{IsNode}
use Rattle.node_core.specs.Messages.{carried, full_sync, piggyback, ack_changes, is_same_digest, digest_of}
use Rattle.node_core.specs.Node.{Node, own_change, or_birth, said_by}
use Rattle.node_core.specs.Receiving.{AnswerStep, MakeStep}
use Rattle.node_core.specs.Step.{NodeStep}
use Rattle.node_core.specs.World.{made_in}
use Rattle.node_core.proofs.Invariant.{calls_keep_it}
use Rattle.node_core.proofs.Listed.{In-map, In-issued, greatest-member}

-- each message that a call makes tells of entries that the node then holds
abbrev pub CallsTell : {H : Type 0} → (H → List ℕ → ℕ) → Type 0
CallsTell {H} hash_of =
    (old new : Node H) (event : Event) (reply : Reply) (message : Message) (s : Sourced) → IsNode old → NodeStep hash_of old event reply new
    → In message (made_in reply) → In s (carried message.content) → greatest new.members s.change.address ≡ Some s.change

-- a change is an entry of the node
abbrev pub IsHeld : {H : Type 0} → Node H → Change → Type 0
IsHeld node c = greatest node.members c.address ≡ Some c

module _ {H : Type 0} (node : Node H) (kept : IsNode node) where
  full_sync-held : (s : Sourced) → In s (full_sync node) → IsHeld node s.change
  full_sync-held s h =
      let r = In-map (said_by node) s node.members h in
      subst (λ (t : Sourced). IsHeld node t.change) r.2 (greatest-member node.members r.0 kept.one_each r.1)

  pub piggyback-held : (target : ℕ) (s : Sourced) → In s (piggyback node target) → IsHeld node s.change
  piggyback-held target s h =
      let r = In-issued target node.config.per_message node.gossip.pending s h in
      subst (λ (t : Sourced). IsHeld node t.change) r.2 (kept.current r.0 r.1)

  own-held : (s : Sourced) → In s (said_by node (own_change node) ∷ []) → IsHeld node s.change
  own-held s (inl e) =
      let mine : own_change node ≡ kept.held = ap (λ (o : Option Change). or_birth node.own o) kept.held_is in
      subst (λ (c : Change). IsHeld node c) (sym (ap (λ (t : Sourced). t.change) e ∙ mine))
      (ap (λ (x : ℕ). greatest node.members x) (IsGreatest-greatest node.members node.own kept.held kept.held_is).about ∙ kept.held_is)
  own-held s (inr k) = absurd k

  pub ack-held : (checksum : Digest) (L : List Sourced) → ((s : Sourced) → In s L → IsHeld node s.change) → (s : Sourced) → In s (ack_changes node checksum L) → IsHeld node s.change
  ack-held checksum (t ∷ L) held s h = held s h
  ack-held checksum [] held s h = by_digest (is_same_digest checksum (digest_of node.members)) h
    where
      by_digest : (b : Bool) → In s (cond b [] (full_sync node)) → IsHeld node s.change
      by_digest true k = absurd k
      by_digest false k = full_sync-held s k

module _ {H : Type 0} (hash_of : H → List ℕ → ℕ) where
  -- a message made is this one, and tells what it does
  made-held : (wanted made m : Message) (s : Sourced) (Holds : Sourced → Type 0) → made ≡ wanted → In m (made ∷ []) → In s (carried m.content)
      → ((t : Sourced) → In t (carried wanted.content) → Holds t) → Holds s
  made-held wanted made m s Holds is (inl e) told all = all s (subst (λ (x : Message). In s (carried x.content)) (e ∙ is) told)
  made-held wanted made m s Holds is (inr k) told all = absurd k

  answer-held : (mid new : Node H) (source : ℕ) (c : Content) (answer m : Message) (s : Sourced) → IsNode mid → AnswerStep mid source c answer new
      → In m (answer ∷ []) → In s (carried m.content) → IsHeld new s.change
  answer-held mid new source (content.Join news) answer m s kept step made told =
      subst (λ (n : Node H). IsHeld n s.change) (sym step.1) (made-held _ answer m s (λ t. IsHeld mid t.change) step.0 made told (full_sync-held mid kept))
  answer-held mid new source (content.Ping news) answer m s kept step made told =
      subst (λ (n : Node H). IsHeld n s.change) (sym step.1) (made-held _ answer m s (λ t. IsHeld mid t.change) step.0 made told
      (ack-held mid kept news.checksum (piggyback mid source) (piggyback-held mid kept source)))
  answer-held mid new source other answer m s kept step made told = elim step [ ]

  sent-held : (old new after : Node H) (wanted made m : Message) (s : Sourced) → MakeStep old wanted after (Ok made) new → after.members ≡ old.members
      → In m (made ∷ []) → In s (carried m.content) → ((t : Sourced) → In t (carried wanted.content) → IsHeld old t.change) → IsHeld new s.change
  sent-held old new after wanted made m s step same is told all =
      subst (λ (M : List Change). greatest M s.change.address ≡ Some s.change) (sym (ap (λ (n : Node H). n.members) step.1 ∙ same))
      (made-held wanted made m s (λ t. IsHeld old t.change) step.0 is told all)

  tells : CallsTell hash_of
  tells old new (event.Receive message moment) (reply.Receive (received.Answer taken answer)) m s kept step made told =
      answer-held step.0 new message.source message.content answer m s
      (calls_keep_it hash_of old step.0 (event.Take (carried message.content) moment) (reply.Take (Ok taken)) kept step.1) step.2 made told
  tells old new (event.Receive message moment) (reply.Receive (received.Done taken)) m s kept step made told = absurd made
  tells old new (event.Receive message moment) (reply.Receive (received.NoAnswer taken)) m s kept step made told = absurd made
  tells old new (event.Receive message moment) (reply.Receive (received.Stopped stopped)) m s kept step made told = absurd made
  tells old new (event.Receive message moment) (reply.Receive received.NotGossip) m s kept step made told = absurd made
  tells old new event.JoinMessage (reply.JoinMessage (Ok message)) m s kept step made told = sent-held old new _ _ message m s step refl made told (own-held old kept)
  tells old new event.JoinMessage (reply.JoinMessage (Err e)) m s kept step made told = absurd made
  tells old new (event.PingTo target) (reply.PingTo (Ok message)) m s kept step made told = sent-held old new _ _ message m s step refl made told (piggyback-held old kept target)
  tells old new (event.PingTo target) (reply.PingTo (Err e)) m s kept step made told = absurd made
  tells old new (event.PingReqTo helper target) (reply.PingReqTo (Ok message)) m s kept step made told = sent-held old new _ _ message m s step refl made told (piggyback-held old kept helper)
  tells old new (event.PingReqTo helper target) (reply.PingReqTo (Err e)) m s kept step made told = absurd made
  tells old new (event.PingReqAckTo requester target reached) (reply.PingReqAckTo (Ok message)) m s kept step made told =
      sent-held old new _ _ message m s step refl made told (piggyback-held old kept requester)
  tells old new (event.PingReqAckTo requester target reached) (reply.PingReqAckTo (Err e)) m s kept step made told = absurd made
  tells old new (event.Take given moment) (reply.Take result) m s kept step made told = absurd made
  tells old new event.Leave (reply.Leave (Ok change)) m s kept step made told = absurd made
  tells old new event.Leave (reply.Leave (Err error.AlreadyLeft)) m s kept step made told = absurd made
  tells old new event.Leave (reply.Leave (Err error.Memory)) m s kept step made told = absurd made
  tells old new event.Rejoin (reply.Rejoin (Ok change)) m s kept step made told = absurd made
  tells old new event.Rejoin (reply.Rejoin (Err error.NotLeft)) m s kept step made told = absurd made
  tells old new event.Rejoin (reply.Rejoin (Err error.Exhausted)) m s kept step made told = absurd made
  tells old new event.Rejoin (reply.Rejoin (Err error.Memory)) m s kept step made told = absurd made
  tells old new (event.Expire moment) (reply.Expire (Ok None)) m s kept step made told = absurd made
  tells old new (event.Expire moment) (reply.Expire (Ok (Some change))) m s kept step made told = absurd made
  tells old new (event.Expire moment) (reply.Expire (Err error.Memory)) m s kept step made told = absurd made
  tells old new event.Probe (reply.Probe (Ok (Some pick))) m s kept step made told = absurd made
  tells old new event.Probe (reply.Probe (Ok None)) m s kept step made told = absurd made
  tells old new event.Probe (reply.Probe (Err error.Busy)) m s kept step made told = absurd made
  tells old new event.Probe (reply.Probe (Err error.Spent)) m s kept step made told = absurd made
  tells old new event.Probe (reply.Probe (Err error.Memory)) m s kept step made told = absurd made
  tells old new (event.Acked number) (reply.Acked (Ok done)) m s kept step made told = absurd made
  tells old new (event.Acked number) (reply.Acked (Err error.StaleProbe)) m s kept step made told = absurd made
  tells old new (event.Lost number moment) (reply.Lost (Ok (lost.Ask helpers))) m s kept step made told = absurd made
  tells old new (event.Lost number moment) (reply.Lost (Ok (lost.Suspect change))) m s kept step made told = absurd made
  tells old new (event.Lost number moment) (reply.Lost (Err error.StaleProbe)) m s kept step made told = absurd made
  tells old new (event.Lost number moment) (reply.Lost (Err error.Memory)) m s kept step made told = absurd made
  tells old new (event.HelperSaid number helper said moment) (reply.HelperSaid (Ok answered.Waiting)) m s kept step made told = absurd made
  tells old new (event.HelperSaid number helper said moment) (reply.HelperSaid (Ok answered.Reached)) m s kept step made told = absurd made
  tells old new (event.HelperSaid number helper said moment) (reply.HelperSaid (Ok (answered.Suspect change))) m s kept step made told = absurd made
  tells old new (event.HelperSaid number helper said moment) (reply.HelperSaid (Ok answered.Inconclusive)) m s kept step made told = absurd made
  tells old new (event.HelperSaid number helper said moment) (reply.HelperSaid (Err error.StaleProbe)) m s kept step made told = absurd made
  tells old new (event.HelperSaid number helper said moment) (reply.HelperSaid (Err error.NotAsked)) m s kept step made told = absurd made
  tells old new (event.HelperSaid number helper said moment) (reply.HelperSaid (Err error.Memory)) m s kept step made told = absurd made
  tells old new event.Own (reply.Own change) m s kept step made told = absurd made
  tells old new (event.Member a) (reply.Member entry) m s kept step made told = absurd made
  tells old new event.Len (reply.Len n) m s kept step made told = absurd made
  tells old new (event.Owner key) (reply.Owner owner) m s kept step made told = absurd made
  tells old new (event.Owners key n) (reply.Owners result) m s kept step made told = absurd made
  tells old new event.Members (reply.Members result) m s kept step made told = absurd made
  tells old new event.DigestText (reply.DigestText result) m s kept step made told = absurd made
  tells old new event.Digest (reply.Digest result) m s kept step made told = absurd made
  tells old new event.Running (reply.Running running) m s kept step made told = absurd made
  tells old new e r m s kept step made told = elim step [ ]

pub calls_tell : {H : Type 0} (hash_of : H → List ℕ → ℕ) → CallsTell hash_of
calls_tell hash_of = tells hash_of
