-- What one ping makes of both nodes: neither has more left to do after it, and where the pinged passed nothing on, the pinger then holds nothing less than it.
use Rattle.std.proofs.Common.{arith, ◌≡◌, ℕ, ◌≤◌, Bool, true, false, cond, List, [], ◌∷◌, map, Option, Some, refl, sym, ◌∙◌, ap, subst}
use Rattle.std.specs.Cmp.Lexicographic.{same_text}
use Rattle.change_core.specs.declared.changes.Change.{Change}
use Rattle.change_core.specs.declared.changes.Sourced.{Sourced}
use Rattle.change_core.specs.declared.digests.Digest.{Digest}
use Rattle.change_core.specs.declared.statuses.Status.{Status}
use Rattle.change_core.specs.Ascending.{In}
use Rattle.change_core.specs.Change.{change_of}
use Rattle.message_core.specs.declared.messages.Message.{Message}
use Rattle.node_core.specs.declared.events.Event.TheVariants as call
use Rattle.node_core.specs.declared.events.Received.TheVariants as received
use Rattle.node_core.specs.declared.events.Reply.TheVariants as answer
use Rattle.node_core.specs.Log.{log_given}
use Rattle.node_core.specs.Messages.{ack_by, ack_changes, digest_of, full_sync, is_same_digest, piggyback, ping_by, told}
use Rattle.node_core.specs.Node.{Node, at_moment, said_by}
use Rattle.node_core.specs.Step.{NodeStep}
use Rattle.node_core.specs.Taking.{TakesAll, took_all}
use Rattle.laws.specs.Convergence.{Nodes, Takes, HoldsNoLess}
use Rattle.laws.specs.Rounds.{AnsweredPing, Ping, PingStep, Size}
use Rattle.laws.proofs.Covering.{log_given-old}
use Rattle.laws.proofs.Exchanging.{calls_take, listed-held}
use Rattle.laws.proofs.Moving.{IsClosed, IsFitNode, Sent, unsent_of, less-sent, sent-less, unsent-falls, news_of, Moves, moves-both, moves-at, moves-took_all, moves-told, told-sent, told-silent}
use Rattle.laws.proofs.Telling.{IsHeld, ack-held, piggyback-held}

-- what a full synchronisation tells is what is held
changes_said : {H : Type 0} (node : Node H) (cs : List Change) → map change_of (map (said_by node) cs) ≡ cs
changes_said node [] = refl
changes_said node (c ∷ cs) = ap (λ (ds : List Change). c ∷ ds) (changes_said node cs)

same_digest : (d e : Digest) → is_same_digest d e ≡ true → d ≡ e
same_digest d e same = ap (λ (bs : List ℕ). record { bytes = bs }) (same_text d.bytes e.bytes (sym same))

module _ {H : Type 0} (size : Size) (status_of : ℕ → Option Status) (closed : IsClosed size.changes status_of) where
  -- a batch is taken whole
  takes-moves : (old new : Node H) (given : List Sourced) (moment : ℕ) → IsFitNode size status_of closed old → ((s : Sourced) → In s given → In s.change size.changes)
      → (taken : _) → TakesAll (at_moment old moment) given taken new → Moves size status_of closed old new
  takes-moves old new given moment is fits taken all =
      let first = moves-at size status_of closed old moment is in
      subst (λ (n : Node H). Moves size status_of closed old n) (sym all.new_is)
      (moves-both size status_of closed old (at_moment old moment) (took_all (at_moment old moment) given) first
      (moves-took_all size status_of closed (at_moment old moment) given first.is all.none_refused fits))

  held-fits : (node : Node H) → IsFitNode size status_of closed node → (s : Sourced) → IsHeld node s.change → In s.change size.changes
  held-fits node is s held = is.fit s.change.address s.change held

  module _ (hash_of : H → List ℕ → ℕ) (before : Nodes H) (p : Ping) (sent : AnsweredPing hash_of before p)
      (pinger_is : IsFitNode size status_of closed sent.pinger) (pinged_is : IsFitNode size status_of closed sent.pinged) where
    -- the pinger makes its ping
    waiting_is : sent.waiting ≡ told sent.pinger p.pinged
    waiting_is = sent.makes.1

    pub pinger-makes : Moves size status_of closed sent.pinger sent.waiting
    pinger-makes = subst (λ (n : Node H). Moves size status_of closed sent.pinger n) (sym waiting_is) (moves-told size status_of closed sent.pinger p.pinged pinger_is)

    -- the pinged takes it
    pinged-step : NodeStep hash_of sent.pinged (call.Receive (ping_by sent.pinger p.pinged) sent.pinged_moment) (answer.Receive (received.Answer sent.pinged_took sent.ack)) sent.answered
    pinged-step = subst (λ (m : Message). NodeStep hash_of sent.pinged (call.Receive m sent.pinged_moment) (answer.Receive (received.Answer sent.pinged_took sent.ack)) sent.answered) sent.makes.0 sent.answers

    abbrev pinged-mid : Node H
    pinged-mid = pinged-step.0

    pinged-takes : Moves size status_of closed sent.pinged pinged-mid
    pinged-takes = takes-moves sent.pinged pinged-mid (piggyback sent.pinger p.pinged) sent.pinged_moment pinged_is
        (λ s h. held-fits sent.pinger pinger_is s (piggyback-held sent.pinger pinger_is.kept p.pinged s h)) sent.pinged_took pinged-step.1

    -- and makes its ack
    answered-is : sent.answered ≡ told pinged-mid sent.pinger.own
    answered-is = pinged-step.2.1

    pinged-makes : Moves size status_of closed pinged-mid sent.answered
    pinged-makes = subst (λ (n : Node H). Moves size status_of closed pinged-mid n) (sym answered-is) (moves-told size status_of closed pinged-mid sent.pinger.own pinged-takes.is)

    pub pinged-sent : Sent size status_of closed sent.pinger.own (Some sent.pinged) (Some sent.answered)
    pinged-sent = less-sent size status_of closed sent.pinger.own (Some sent.pinged) (Some pinged-mid) (Some sent.answered) pinged-takes.less
        (subst (λ (n : Node H). Sent size status_of closed sent.pinger.own (Some pinged-mid) (Some n)) (sym answered-is) (told-sent size status_of closed pinged-mid sent.pinger.own pinged-takes.is))
        pinged-makes.less

    pub pinged-moves : Moves size status_of closed sent.pinged sent.answered
    pinged-moves = moves-both size status_of closed sent.pinged pinged-mid sent.answered pinged-takes pinged-makes

  module _ (hash_of : H → List ℕ → ℕ) (before : Nodes H) (p : Ping) (after : Nodes H) (step : PingStep hash_of before p after)
      (pinger_is : IsFitNode size status_of closed step.sent.pinger) (pinged_is : IsFitNode size status_of closed step.sent.pinged) where
    abbrev mid : Node H
    mid = pinged-mid hash_of before p step.sent pinger_is pinged_is

    abbrev took : NodeStep hash_of step.sent.pinged (call.Receive (ping_by step.sent.pinger p.pinged) step.sent.pinged_moment) (answer.Receive (received.Answer step.sent.pinged_took step.sent.ack)) step.sent.answered
    took = pinged-step hash_of before p step.sent pinger_is pinged_is

    second : Moves size status_of closed step.sent.pinged mid
    second = pinged-takes hash_of before p step.sent pinger_is pinged_is

    answered_is : step.sent.answered ≡ told mid step.sent.pinger.own
    answered_is = answered-is hash_of before p step.sent pinger_is pinged_is

    waiting : IsFitNode size status_of closed step.sent.waiting
    waiting = (pinger-makes hash_of before p step.sent pinger_is pinged_is).is

    -- which the pinger takes
    abbrev checksum : Digest
    checksum = digest_of step.sent.pinger.members

    abbrev acked : List Sourced
    acked = ack_changes mid checksum (piggyback mid step.sent.pinger.own)

    ended : NodeStep hash_of step.sent.waiting (call.Receive (ack_by mid step.sent.pinger.own checksum) step.acked_moment) (answer.Receive (received.Done step.pinger_took)) step.done
    ended = subst (λ (m : Message). NodeStep hash_of step.sent.waiting (call.Receive m step.acked_moment) (answer.Receive (received.Done step.pinger_took)) step.done) took.2.0 step.takes

    pub waiting-moves : Moves size status_of closed step.sent.waiting step.done
    waiting-moves = takes-moves step.sent.waiting step.done acked step.acked_moment waiting
        (λ s h. held-fits mid second.is s (ack-held mid second.is.kept checksum (piggyback mid step.sent.pinger.own) (piggyback-held mid second.is.kept step.sent.pinger.own) s h))
        step.pinger_took ended.2

    takes : Takes true step.sent.waiting (map change_of acked) step.done
    takes = calls_take hash_of step.sent.waiting step.done (call.Receive (ack_by mid step.sent.pinger.own checksum) step.acked_moment) (answer.Receive (received.Done step.pinger_took)) waiting.kept ended refl

    pub pinger-sent : Sent size status_of closed p.pinged (Some step.sent.pinger) (Some step.done)
    pinger-sent = sent-less size status_of closed p.pinged (Some step.sent.pinger) (Some step.sent.waiting) (Some step.done)
        (subst (λ (n : Node H). Sent size status_of closed p.pinged (Some step.sent.pinger) (Some n)) (sym (waiting_is hash_of before p step.sent pinger_is pinged_is))
        (told-sent size status_of closed step.sent.pinger p.pinged pinger_is))
        (pinger-makes hash_of before p step.sent pinger_is pinged_is).less waiting-moves.less

    -- where the pinged took nothing that was news to it and passed nothing on its ack is whole, unless both hold the same

    module _ (no_news : news_of size status_of closed (Some step.sent.pinged) ≤ news_of size status_of closed (Some step.sent.answered))
        (no_less : unsent_of size status_of closed (Some step.sent.pinged) ≤ unsent_of size status_of closed (Some step.sent.answered)) where
      silent : piggyback mid step.sent.pinger.own ≡ []
      silent = told-silent size status_of closed mid step.sent.pinger.own second.is (
          let after : news_of size status_of closed (Some step.sent.answered) ≤ news_of size status_of closed (Some mid)
          = (pinged-makes hash_of before p step.sent pinger_is pinged_is).less.news in
          let fell : unsent_of size status_of closed (Some mid) ≤ unsent_of size status_of closed (Some step.sent.pinged)
          = unsent-falls size status_of closed (Some step.sent.pinged) (Some mid) second.less (omega (arith, no_news, after)) in
          let rest : unsent_of size status_of closed (Some step.sent.pinged) ≤ unsent_of size status_of closed (Some (told mid step.sent.pinger.own))
          = subst (λ (n : Node H). unsent_of size status_of closed (Some step.sent.pinged) ≤ unsent_of size status_of closed (Some n)) answered_is no_less in
          omega (arith, fell, rest))

      told_same : step.sent.answered.members ≡ mid.members
      told_same = ap (λ (n : Node H). n.members) answered_is

      pub pinger-holds : HoldsNoLess step.done step.sent.answered.members
      pinger-holds = by_digest (is_same_digest checksum (digest_of mid.members)) refl
        where
          by_digest : (b : Bool) → is_same_digest checksum (digest_of mid.members) ≡ b → HoldsNoLess step.done step.sent.answered.members
          by_digest true e =
              let digests : checksum ≡ digest_of step.sent.answered.members = same_digest checksum (digest_of mid.members) e ∙ ap digest_of (sym told_same) in
              let kept : step.sent.waiting.members ≡ step.sent.pinger.members = ap (λ (n : Node H). n.members) (waiting_is hash_of before p step.sent pinger_is pinged_is) in
              let same : step.sent.waiting.members ≡ step.sent.answered.members = kept ∙ step.no_collision digests in
              subst (λ (M : List Change). HoldsNoLess step.done M) same
              (λ c h. listed-held (log_given step.sent.waiting.own step.sent.waiting.members takes.taken) step.done takes.members_are c
              (log_given-old step.sent.waiting.own step.sent.waiting.members takes.taken c h))
          by_digest false e =
              let all : acked ≡ full_sync mid = ap (ack_changes mid checksum) silent ∙ ap (λ b. cond b [] (full_sync mid)) e in
              let what : map change_of acked ≡ step.sent.answered.members = ap (λ (ss : List Sourced). map change_of ss) all ∙ changes_said mid mid.members ∙ sym told_same in
              subst (λ (M : List Change). HoldsNoLess step.done M) what (takes.covers refl)
