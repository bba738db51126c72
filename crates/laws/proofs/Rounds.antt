-- Rounds of pings: in each in which a node takes something that is news to it or passes something on it has that much less left to do, and in any other all hear of it.
use Rattle.std.proofs.Common.{arith, ◌≡◌, ◌≢◌, ◌⊎◌, ℕ, suc, ◌+◌, ◌-◌, ◌*◌, ◌<◌, ◌≤◌, ◌&&◌, Bool, true, false, eqb, not, List, [], ◌∷◌, ◌++◌, length, map, Option, Some, None, Ok, refl, sym, ◌∙◌, ap, subst, inl, inr, true≢false}
use Rattle.std.specs.Prelude.{drop, option_map, take}
use Rattle.std.specs.List.{Contains, count_by}
use Rattle.std.proofs.Math.Nat.{max-le, mul-le-mul_right, suc-mul}
use Rattle.std.proofs.lemmas.Bool.{cases_eq, cases_lt, eq-eqb, ne_eqb}
use Rattle.std.proofs.lemmas.List.{length-drop, length-map, length-take-le, take-append-drop}
use Rattle.change_core.specs.declared.changes.Change.{Change}
use Rattle.change_core.specs.declared.changes.Sourced.{Sourced}
use Rattle.change_core.specs.declared.statuses.Status.{Status}
use Rattle.change_core.specs.Ascending.{In}
use Rattle.change_core.specs.Change.{change_of}
use Rattle.change_core.specs.Members.{greatest, IsRising}
use Rattle.change_core.specs.Refutation.{refutation}
use Rattle.change_core.proofs.Members.{Contains-nil, IsGreatest-greatest}
use Rattle.change_core.proofs.Order.{in_append_left, in_append_right}
use Rattle.gossip_core.specs.declared.pending.Pending.{Pending}
use Rattle.message_core.specs.declared.messages.Message.{Message}
use Rattle.node_core.specs.declared.events.Event.TheVariants as call
use Rattle.node_core.specs.declared.events.Received.TheVariants as received
use Rattle.node_core.specs.declared.events.Reply.TheVariants as answer
use Rattle.node_core.specs.Invariant.{IsNode}
use Rattle.node_core.specs.Messages.{carried}
use Rattle.node_core.specs.Node.{Node, own_change}
use Rattle.node_core.specs.Step.{NodeStep}
use Rattle.node_core.specs.World.{placed_at}
use Rattle.node_core.proofs.Listed.{In-map, In-from_Contains}
use Rattle.laws.specs.Convergence.{Nodes, IsThere, AreNodes, HoldsNoLess, Takes, Exchange, ExchangeStep, ExchangeRun, IsSweep, HaveConverged}
use Rattle.laws.specs.Rounds.{AnsweredPing, Ping, PingStep, PingRun, RoundRun, Size, AreWithin, quiet_after, enough_rounds, RoundsConverge, Fate, Acknowledged, AckLost, PingLost, SentPing, PingLostStep, FateStep, LossyRun, IsStretch, StretchRun, StretchesConverge}
use Rattle.laws.proofs.Converging.{at_new, elsewhere, ending, staying, sweeps_converge}
use Rattle.laws.proofs.Exchanging.{calls_take}
use Rattle.laws.proofs.Measure.{unsent}
use Rattle.laws.proofs.Moving.{IsClosed, IsFitNode, Less, less-both, less-same, Moves, moves-told, news_of, pending_of, Sent, unsent-falls, unsent_of}
use Rattle.laws.proofs.Pinging.{pinger-makes, pinged-moves, waiting-moves, pinger-holds, pinged-sent, pinger-sent}
use Rattle.laws.proofs.Remaining as remaining
use Rattle.laws.proofs.Sendings.{is_acked, is_pinged, is_pinger, none-sent, one-sent, reaches-each, sent_in, sent-more}
use Rattle.laws.proofs.Telling.{calls_tell}

-- a ping is three exchanges: what the pinger holds stays as it makes the ping, the pinged takes a part of it, and the pinger takes of the ack

takes-part : {H : Type 0} (whole : Bool) (taker : Node H) (given told : List Change) (new : Node H) → Takes whole taker given new
    → ((c : Change) → Contains given c → Contains told c) → Takes false taker told new
takes-part whole taker given told new takes in_told = record {
  taken = takes.taken;
  of_given = λ c h. in_told c (takes.of_given c h);
  covers = λ w. let no : false ≡ true = w in cc;
  members_are = takes.members_are;
  own_stays = takes.own_stays;
  kept = takes.kept;
}

run-both : {H : Type 0} (before between after : Nodes H) (es fs : List Exchange) → ExchangeRun before es between → ExchangeRun between fs after → ExchangeRun before (es ++ fs) after
run-both {H = H} before between after [] fs first second = subst (λ (n : Nodes H). ExchangeRun n fs after) first second
run-both {H = H} before between after (e ∷ es) fs first second = (first.0, first.1, run-both first.0 between after es fs first.2 second)

module _ {H : Type 0} (hash_of : H → List ℕ → ℕ) where
  -- what a message carries is held by the node that made it
  in_held : (node : Node H) (m : Message) → ((s : Sourced) → In s (carried m.content) → greatest node.members s.change.address ≡ Some s.change)
      → (c : Change) → Contains (map change_of (carried m.content)) c → Contains node.members c
  in_held node m held c h =
      let r = In-map change_of c (carried m.content) (In-from_Contains c (map change_of (carried m.content)) h) in
      subst (λ (d : Change). Contains node.members d) r.2 (IsGreatest-greatest node.members r.0.change.address r.0.change (held r.0 r.1)).listed

  -- what a node holds stays as it makes a ping
  makes-ping : (old new : Node H) (target : ℕ) (m : Message) → IsNode old → NodeStep hash_of old (call.PingTo target) (answer.PingTo (Ok m)) new → Takes false old old.members new
  makes-ping old new target m kept makes =
      takes-part true old [] old.members new (calls_take hash_of old new (call.PingTo target) (answer.PingTo (Ok m)) kept makes refl) (λ c h. absurd (Contains-nil c h))

  module _ (before : Nodes H) (p : Ping) (sent : AnsweredPing hash_of before p) (are : AreNodes before) where
    abbrev making : Nodes H
    making = placed_at p.pinger sent.waiting before

    abbrev answering : Nodes H
    answering = placed_at p.pinged sent.answered making

    pinged_there : making p.pinged ≡ Some sent.pinged
    pinged_there = elsewhere before making p.pinger sent.pinger sent.waiting sent.pinger_is refl p.pinged (λ k. sent.apart (sym k)) ∙ sent.pinged_is

    waiting_there : making p.pinger ≡ Some sent.waiting
    waiting_there = at_new before making p.pinger sent.pinger sent.waiting sent.pinger_is refl

    answered_there : answering p.pinged ≡ Some sent.answered
    answered_there = at_new making answering p.pinged sent.pinged sent.answered pinged_there refl

    still_waiting : answering p.pinger ≡ Some sent.waiting
    still_waiting = elsewhere making answering p.pinged sent.pinged sent.answered pinged_there refl p.pinger sent.apart ∙ waiting_there

    made : Takes false sent.pinger sent.pinger.members sent.waiting
    made = makes-ping sent.pinger sent.waiting p.pinged sent.ping (are.kept p.pinger sent.pinger sent.pinger_is) sent.makes

    took : Takes false sent.pinged sent.waiting.members sent.answered
    took = takes-part true sent.pinged (map change_of (carried sent.ping.content)) sent.waiting.members sent.answered
        (calls_take hash_of sent.pinged sent.answered (call.Receive sent.ping sent.pinged_moment) (answer.Receive (received.Answer sent.pinged_took sent.ack))
        (are.kept p.pinged sent.pinged sent.pinged_is) sent.answers refl)
        (in_held sent.waiting sent.ping (λ s h. calls_tell hash_of sent.pinger sent.waiting (call.PingTo p.pinged) (answer.PingTo (Ok sent.ping)) sent.ping s
        (are.kept p.pinger sent.pinger sent.pinger_is) sent.makes (inl refl) h))

    abbrev first : Exchange
    first = record { taker = p.pinger; giver = p.pinger; whole = false }

    abbrev second : Exchange
    second = record { taker = p.pinged; giver = p.pinger; whole = false }

    first-step : ExchangeStep before first making
    first-step = record {
      taker = sent.pinger;
      giver = sent.pinger;
      new = sent.waiting;
      taker_is = sent.pinger_is;
      giver_is = sent.pinger_is;
      takes = made;
      after_is = refl;
    }

    second-step : ExchangeStep making second answering
    second-step = record {
      taker = sent.pinged;
      giver = sent.waiting;
      new = sent.answered;
      taker_is = pinged_there;
      giver_is = waiting_there;
      takes = took;
      after_is = refl;
    }

    -- a ping and its answer are two exchanges
    abbrev half : List Exchange
    half = first ∷ second ∷ []

  module _ (before : Nodes H) (p : Ping) (after : Nodes H) (step : PingStep hash_of before p after) (are : AreNodes before) where
    abbrev acking : Nodes H
    acking = answering before p step.sent are

    there : acking p.pinger ≡ Some step.sent.waiting
    there = still_waiting before p step.sent are

    acked : Takes false step.sent.waiting step.sent.answered.members step.done
    acked = takes-part true step.sent.waiting (map change_of (carried step.sent.ack.content)) step.sent.answered.members step.done
        (calls_take hash_of step.sent.waiting step.done (call.Receive step.sent.ack step.acked_moment) (answer.Receive (received.Done step.pinger_took))
        (made before p step.sent are).kept step.takes refl)
        (in_held step.sent.answered step.sent.ack (λ s h. calls_tell hash_of step.sent.pinged step.sent.answered (call.Receive step.sent.ping step.sent.pinged_moment)
        (answer.Receive (received.Answer step.sent.pinged_took step.sent.ack)) step.sent.ack s (are.kept p.pinged step.sent.pinged step.sent.pinged_is) step.sent.answers (inl refl) h))

    -- the ack is taken whole where the pinger then holds no less than the pinged
    last-takes : (whole : Bool) → (whole ≡ true → HoldsNoLess step.done step.sent.answered.members) → Takes whole step.sent.waiting step.sent.answered.members step.done
    last-takes whole covers = record {
      taken = acked.taken;
      of_given = acked.of_given;
      covers = covers;
      members_are = acked.members_are;
      own_stays = acked.own_stays;
      kept = acked.kept;
    }

    abbrev last : Bool → Exchange
    last whole = record { taker = p.pinger; giver = p.pinged; whole = whole }

    last-step : (whole : Bool) → (whole ≡ true → HoldsNoLess step.done step.sent.answered.members) → ExchangeStep acking (last whole) after
    last-step whole covers = record {
      taker = step.sent.waiting;
      giver = step.sent.answered;
      new = step.done;
      taker_is = there;
      giver_is = answered_there before p step.sent are;
      takes = last-takes whole covers;
      after_is = step.after_is;
    }

    pub pinger_after : after p.pinger ≡ Some step.done
    pinger_after = at_new acking after p.pinger step.sent.waiting step.done there step.after_is

    pub pinged_after : after p.pinged ≡ Some step.sent.answered
    pinged_after = elsewhere acking after p.pinger step.sent.waiting step.done there step.after_is p.pinged (λ k. step.sent.apart (sym k)) ∙ answered_there before p step.sent are

  -- nodes go on by exchanges, and none has more left to do

  module _ (size : Size) (status_of : ℕ → Option Status) (closed : IsClosed size.changes status_of) where
    abbrev news : Option (Node H) → ℕ
    news o = news_of size status_of closed o

    abbrev unsent_by : Option (Node H) → ℕ
    unsent_by o = unsent_of size status_of closed o

    abbrev pending : Option (Node H) → List Pending
    pending o = pending_of size status_of closed o

    abbrev IsLess : Option (Node H) → Option (Node H) → Type 0
    IsLess o p = Less size status_of closed o p

    abbrev IsQuiet : Option (Node H) → Option (Node H) → Type 0
    IsQuiet o p = remaining.IsQuiet size status_of closed o p

    abbrev messages : ℕ
    messages = remaining.messages size

    abbrev left : Option (Node H) → ℕ
    left o = remaining.left size status_of closed o

    abbrev waits : List Pending → ℕ
    waits qs = remaining.waits size qs

    record AreFit (nodes : Nodes H) : Type 0 where
      are : AreNodes nodes
      each : (a : ℕ) (node : Node H) → nodes a ≡ Some node → IsFitNode size status_of closed node

    record Go (before after : Nodes H) (es : List Exchange) : Type 0 where
      fit : AreFit after
      less : (c : ℕ) → IsLess (before c) (after c)
      run : ExchangeRun before es after

    go-none : (before after : Nodes H) → AreFit before → after ≡ before → Go before after []
    go-none before after fit same = record {
      fit = subst (λ (n : Nodes H). AreFit n) (sym same) fit;
      less = λ c. subst (λ (n : Nodes H). IsLess (before c) (n c)) (sym same) (less-same size status_of closed (before c));
      run = same;
    }

    go-both : (before between after : Nodes H) (es fs : List Exchange) → Go before between es → Go between after fs → Go before after (es ++ fs)
    go-both before between after es fs one two = record {
      fit = two.fit;
      less = λ c. less-both size status_of closed (before c) (between c) (after c) (one.less c) (two.less c);
      run = run-both before between after es fs one.run two.run;
    }

    -- one node moves by an exchange

    module _ (before after : Nodes H) (a : ℕ) (old new : Node H) (was : before a ≡ Some old) (after_is : after ≡ placed_at a new before)
        (moves : Moves size status_of closed old new) (fit : AreFit before) (e : Exchange) (step : ExchangeStep before e after) where
      now_there : after a ≡ Some new
      now_there = at_new before after a old new was after_is

      -- what holds of it and of the others holds of all
      of_each : (P : ℕ → Type 0) → P a → ((c : ℕ) → after c ≡ before c → P c) → (c : ℕ) → P c
      of_each P one rest c = elim (cases_eq c a) [ inl is ↦ subst P (sym is) one | inr other ↦ rest c (elsewhere before after a old new was after_is c other) ]

      one_goes : Go before after (e ∷ [])
      one_goes = record {
        fit = record {
          are = ending before after (e ∷ []) fit.are run;
          each = of_each (λ c. (node : Node H) → after c ≡ Some node → IsFitNode size status_of closed node)
              (λ node is. subst (λ (n : Node H). IsFitNode size status_of closed n) (same_node node (sym now_there ∙ is)) moves.is)
              (λ c same node is. fit.each c node (sym same ∙ is));
        };
        less = of_each (λ c. IsLess (before c) (after c))
            (subst (λ (o : Option (Node H)). IsLess (before a) o) (sym now_there) (subst (λ (o : Option (Node H)). IsLess o (Some new)) (sym was) moves.less))
            (λ c same. subst (λ (o : Option (Node H)). IsLess (before c) o) (sym same) (less-same size status_of closed (before c)));
        run = run;
      }
        where
          run : ExchangeRun before (e ∷ []) after
          run = (after, step, refl)

          same_node : (node : Node H) → Some new ≡ Some node → new ≡ node
          same_node node is = cc

    -- after pings the nodes have gone on; a pinger that was acknowledged took the whole of a pinged that was quiet; and while a change is pending each message to
    -- any but its source issued something
    record Advance (before after : Nodes H) (ss : List SentPing) : Type 0 where
      es : List Exchange
      goes : Go before after es
      wholes : (a b : ℕ) → In (record { ping = record { pinger = a; pinged = b }; fate = Acknowledged }) ss → IsQuiet (before b) (after b)
          → In (record { taker = a; giver = b; whole = true }) es
      issued : (b : ℕ) → news (before b) ≤ news (after b) → (q : Pending) → In q (pending (after b))
          → unsent_by (after b) + sent_in b q.sourced.source ss ≤ unsent_by (before b)

    -- a ping is answered
    answered_goes : (before : Nodes H) (p : Ping) (sent : AnsweredPing hash_of before p) (fit : AreFit before)
        → Go before (answering before p sent fit.are) (half before p sent fit.are)
    answered_goes before p sent fit =
        let made : Nodes H = making before p sent fit.are in
        let answered : Nodes H = answering before p sent fit.are in
        let pinger_fit : IsFitNode size status_of closed sent.pinger = fit.each p.pinger sent.pinger sent.pinger_is in
        let pinged_fit : IsFitNode size status_of closed sent.pinged = fit.each p.pinged sent.pinged sent.pinged_is in
        let one : Go before made (first before p sent fit.are ∷ [])
        = one_goes before made p.pinger sent.pinger sent.waiting sent.pinger_is refl (pinger-makes size status_of closed hash_of before p sent pinger_fit pinged_fit) fit
        (first before p sent fit.are) (first-step before p sent fit.are) in
        go-both before made answered (first before p sent fit.are ∷ []) (second before p sent fit.are ∷ []) one
        (one_goes made answered p.pinged sent.pinged sent.answered (pinged_there before p sent fit.are) refl (pinged-moves size status_of closed hash_of before p sent pinger_fit pinged_fit) one.fit
        (second before p sent fit.are) (second-step before p sent fit.are))

    -- and acknowledged

    module _ (before : Nodes H) (p : Ping) (after : Nodes H) (step : PingStep hash_of before p after) (fit : AreFit before) where
      pinger_fit : IsFitNode size status_of closed step.sent.pinger
      pinger_fit = fit.each p.pinger step.sent.pinger step.sent.pinger_is

      pinged_fit : IsFitNode size status_of closed step.sent.pinged
      pinged_fit = fit.each p.pinged step.sent.pinged step.sent.pinged_is

      abbrev acked_es : Bool → List Exchange
      acked_es whole = half before p step.sent fit.are ++ last before p after step fit.are whole ∷ []

      acked_goes : (whole : Bool) → (whole ≡ true → HoldsNoLess step.done step.sent.answered.members) → Go before after (acked_es whole)
      acked_goes whole covers =
          let answered : Nodes H = answering before p step.sent fit.are in
          let one = answered_goes before p step.sent fit in
          go-both before answered after (half before p step.sent fit.are) (last before p after step fit.are whole ∷ []) one
          (one_goes answered after p.pinger step.sent.waiting step.done (there before p after step fit.are) step.after_is
          (waiting-moves size status_of closed hash_of before p after step pinger_fit pinged_fit) one.fit
          (last before p after step fit.are whole) (last-step before p after step fit.are whole covers))

      pinged_quiet : IsQuiet (before p.pinged) (after p.pinged) → IsQuiet (Some step.sent.pinged) (Some step.sent.answered)
      pinged_quiet h = subst (λ (o : Option (Node H)). IsQuiet o (Some step.sent.answered)) step.sent.pinged_is
          (subst (λ (o : Option (Node H)). IsQuiet (before p.pinged) o) (pinged_after before p after step fit.are) h)

      pinger_sends : Sent size status_of closed p.pinged (before p.pinger) (after p.pinger)
      pinger_sends = subst (λ (o : Option (Node H)). Sent size status_of closed p.pinged o (after p.pinger)) (sym step.sent.pinger_is)
          (subst (λ (o : Option (Node H)). Sent size status_of closed p.pinged (Some step.sent.pinger) o) (sym (pinger_after before p after step fit.are))
          (pinger-sent size status_of closed hash_of before p after step pinger_fit pinged_fit))

      pinged_sends : Sent size status_of closed p.pinger (before p.pinged) (after p.pinged)
      pinged_sends = subst (λ (o : Option (Node H)). Sent size status_of closed p.pinger o (after p.pinged)) (sym step.sent.pinged_is)
          (subst (λ (o : Option (Node H)). Sent size status_of closed p.pinger (Some step.sent.pinged) o) (sym (pinged_after before p after step fit.are))
          (subst (λ (t : ℕ). Sent size status_of closed t (Some step.sent.pinged) (Some step.sent.answered)) (fit.are.own p.pinger step.sent.pinger step.sent.pinger_is)
          (pinged-sent size status_of closed hash_of before p step.sent pinger_fit pinged_fit)))

      acked_issued : (whole : Bool) (goes : Go before after (acked_es whole)) (b : ℕ) → news (before b) ≤ news (after b) → (q : Pending) → In q (pending (after b))
          → unsent_by (after b) + sent_in b q.sourced.source (record { ping = p; fate = Acknowledged } ∷ []) ≤ unsent_by (before b)
      acked_issued whole goes b same q listed =
          one-sent b q.sourced.source (record { ping = p; fate = Acknowledged }) (unsent_by (before b)) (unsent_by (after b)) step.sent.apart
          (unsent-falls size status_of closed (before b) (after b) (goes.less b) same)
          (λ is other. subst (λ (c : ℕ). Sent size status_of closed p.pinged (before c) (after c)) is pinger_sends same q listed (λ e. other (sym e)))
          (λ is other. subst (λ (c : ℕ). Sent size status_of closed p.pinger (before c) (after c)) is pinged_sends same q listed (λ e. other (sym e)))

      acked_advance : Advance before after (record { ping = p; fate = Acknowledged } ∷ [])
      acked_advance = elim (remaining.quiet-or_not size status_of closed (before p.pinged) (after p.pinged)) [
        | inl quiet ↦
            let holds : HoldsNoLess step.done step.sent.answered.members
            = pinger-holds size status_of closed hash_of before p after step pinger_fit pinged_fit (pinged_quiet quiet).no_news (pinged_quiet quiet).no_less in
            let goes = acked_goes true (λ w. holds) in
            record {
              es = acked_es true;
              goes = goes;
              wholes = λ a b h same. elim h [
                | inl is ↦ in_append_right (record { taker = a; giver = b; whole = true }) (half before p step.sent fit.are) (last before p after step fit.are true ∷ [])
                    (inl (ap (λ (t : SentPing). record { taker = t.ping.pinger; giver = t.ping.pinged; whole = true }) is))
                | inr k ↦ absurd k
              ];
              issued = acked_issued true goes;
            }
        | inr loud ↦
            let goes = acked_goes false (λ w. let no : false ≡ true = w in cc) in
            record {
              es = acked_es false;
              goes = goes;
              wholes = λ a b h quiet. elim h [
                | inl is ↦ absurd (loud (subst (λ (c : ℕ). IsQuiet (before c) (after c)) (ap (λ (t : SentPing). t.ping.pinged) is) quiet))
                | inr k ↦ absurd k
              ];
              issued = acked_issued false goes;
            }
      ]

    -- a ping that is lost, and one whose ack is

    unwhole : (before : Nodes H) (after : Nodes H) (p : Ping) (fate : Fate) (es : List Exchange) → Go before after es → is_acked fate ≡ false
        → Advance before after (record { ping = p; fate = fate } ∷ [])
    unwhole before after p fate es goes lost = record {
      es = es;
      goes = goes;
      wholes = λ a b h same. elim h [ inl is ↦ absurd (true≢false (ap (λ (t : SentPing). is_acked t.fate) is ∙ lost)) | inr k ↦ absurd k ];
      issued = λ b same q listed.
          none-sent b q.sourced.source (record { ping = p; fate = fate }) (unsent_by (before b)) (unsent_by (after b)) lost (unsent-falls size status_of closed (before b) (after b) (goes.less b) same);
    }

    ping_lost_goes : (before : Nodes H) (p : Ping) (after : Nodes H) (step : PingLostStep hash_of before p after) → AreFit before
        → Go before after (record { taker = p.pinger; giver = p.pinger; whole = false } ∷ [])
    ping_lost_goes before p after step fit =
        let is : IsFitNode size status_of closed step.pinger = fit.each p.pinger step.pinger step.pinger_is in
        one_goes before after p.pinger step.pinger step.waiting step.pinger_is step.after_is
        (subst (λ (n : Node H). Moves size status_of closed step.pinger n) (sym step.makes.1) (moves-told size status_of closed step.pinger p.pinged is))
        fit (record { taker = p.pinger; giver = p.pinger; whole = false })
        (record {
          taker = step.pinger;
          giver = step.pinger;
          new = step.waiting;
          taker_is = step.pinger_is;
          giver_is = step.pinger_is;
          takes = makes-ping step.pinger step.waiting p.pinged step.ping is.kept step.makes;
          after_is = step.after_is;
        })

    fate_advance : (before : Nodes H) (p : Ping) (fate : Fate) (after : Nodes H) → FateStep hash_of before p fate after → AreFit before
        → Advance before after (record { ping = p; fate = fate } ∷ [])
    fate_advance before p Acknowledged after step fit = acked_advance before p after step fit
    fate_advance before p AckLost after step fit =
        unwhole before after p AckLost (half before p step.sent fit.are)
        (subst (λ (n : Nodes H). Go before n (half before p step.sent fit.are)) (sym step.after_is) (answered_goes before p step.sent fit)) refl
    fate_advance before p PingLost after step fit =
        unwhole before after p PingLost (record { taker = p.pinger; giver = p.pinger; whole = false } ∷ []) (ping_lost_goes before p after step fit) refl

    pings_advance : (before after : Nodes H) (ss : List SentPing) → LossyRun hash_of before ss after → AreFit before → Advance before after ss
    pings_advance before after [] run fit =
        let goes = go-none before after fit run in
        record {
          es = [];
          goes = goes;
          wholes = λ a b h same. absurd h;
          issued = λ b same q listed.
              let fell : unsent_by (after b) ≤ unsent_by (before b) = unsent-falls size status_of closed (before b) (after b) (goes.less b) same in
              omega (arith, fell);
        }
    pings_advance before after (s ∷ ss) run fit =
        let one = fate_advance before s.ping s.fate run.0 run.1 fit in
        let rest = pings_advance run.0 after ss run.2 one.goes.fit in
        record {
          es = one.es ++ rest.es;
          goes = go-both before run.0 after one.es rest.es one.goes rest.goes;
          wholes = λ a b place quiet. elim place [
            | inl is ↦ in_append_left (record { taker = a; giver = b; whole = true }) one.es rest.es
                (one.wholes a b (inl is) (remaining.quiet-first size status_of closed (before b) (run.0 b) (after b) (one.goes.less b) (rest.goes.less b) quiet))
            | inr k ↦ in_append_right (record { taker = a; giver = b; whole = true }) one.es rest.es
                (rest.wholes a b k (remaining.quiet-rest size status_of closed (before b) (run.0 b) (after b) (one.goes.less b) (rest.goes.less b) quiet))
          ];
          issued = λ b same q listed.
              let early : news (run.0 b) ≤ news (before b) = (one.goes.less b).news in
              let late : news (after b) ≤ news (run.0 b) = (rest.goes.less b).news in
              let was = (rest.goes.less b).still (omega (arith, same, early)) q listed in
              let first : unsent_by (run.0 b) + sent_in b q.sourced.source (s ∷ []) ≤ unsent_by (before b)
              = subst (λ (x : Sourced). unsent_by (run.0 b) + sent_in b x.source (s ∷ []) ≤ unsent_by (before b)) was.2 (one.issued b (omega (arith, same, late)) was.0 was.1) in
              let second : unsent_by (after b) + sent_in b q.sourced.source ss ≤ unsent_by (run.0 b) = rest.issued b (omega (arith, same, early)) q listed in
              let both : sent_in b q.sourced.source (s ∷ ss) ≡ sent_in b q.sourced.source (s ∷ []) + sent_in b q.sourced.source ss = sent-more b q.sourced.source s ss in
              omega (arith, first, second, both);
        }

    -- in a stretch a node is quiet, and all others take the whole of it, or it has so much less left to do

    module _ (before after : Nodes H) (ss : List SentPing) (stretch : IsStretch before ss) (advance : Advance before after ss) (nodes_there : (a : ℕ) → In a size.nodes → IsThere before a)
        (rising : IsRising size.nodes) (b : ℕ) (there : IsThere before b) where
      less : IsLess (before b) (after b)
      less = advance.goes.less b

      fewer : news (after b) ≤ news (before b)
      fewer = less.news

      -- it took something that was news to it
      by_news : news (after b) < news (before b) → left (after b) + messages ≤ left (before b)
      by_news took =
          let row : (news (after b) + 1) * (2 * messages) ≤ news (before b) * (2 * messages) = mul-le-mul_right (2 * messages) (omega (arith, took)) in
          let split : (news (after b) + 1) * (2 * messages) ≡ news (after b) * (2 * messages) + 2 * messages
          = ap (λ n. n * (2 * messages)) (omega arith) ∙ suc-mul (news (after b)) (2 * messages) in
          let work : news (after b) * size.limit + unsent_by (after b) ≤ news (before b) * size.limit + unsent_by (before b) = less.work in
          let wait : waits (pending (after b)) ≤ messages = remaining.waits-few size (pending (after b)) in
          omega (arith, row, split, work, wait)

      module _ (same : news (before b) ≤ news (after b)) where
        equal : news (after b) ≡ news (before b)
        equal = omega (arith, same, fewer)

        rows : news (after b) * size.limit ≡ news (before b) * size.limit
        rows = ap (λ n. n * size.limit) equal

        twice : news (after b) * (2 * messages) ≡ news (before b) * (2 * messages)
        twice = ap (λ n. n * (2 * messages)) equal

        -- it passed on the last that was pending
        by_last : unsent_by (after b) < unsent_by (before b) → pending (after b) ≡ [] → left (after b) + messages ≤ left (before b)
        by_last fell none =
            let gone : waits (pending (after b)) ≡ 0 = ap waits none in
            let was : waits (pending (before b)) ≡ messages = some (pending (before b)) refl in
            omega (arith, rows, twice, fell, gone, was)
          where
            some : (qs : List Pending) → pending (before b) ≡ qs → waits qs ≡ messages
            some [] e = let nothing : unsent_by (before b) ≡ 0 = ap (λ (l : List Pending). unsent size.limit l) e in absurd (omega (arith, nothing, fell))
            some (q ∷ qs) e = refl

        -- something is pending still, so each message to any but its source issued something
        by_rest : unsent_by (after b) < unsent_by (before b) → (q : Pending) → In q (pending (after b)) → left (after b) + messages ≤ left (before b)
        by_rest fell q listed =
            let source : ℕ = q.sourced.source in
            let sent : unsent_by (after b) + sent_in b source ss ≤ unsent_by (before b) = advance.issued b same q listed in
            let pings : length size.nodes ≤ 2 + count_by (is_pinger b source) ss
            = reaches-each size.nodes b source (λ s. s.ping.pinged) (is_pinger b source) ss (λ a in_a apart other. (
              record { ping = record { pinger = b; pinged = a }; fate = Acknowledged },
              stretch b a there (nodes_there a in_a) (λ e. apart (sym e)),
              refl,
              ap (λ x. x && (not (eqb a source) && true)) (eq-eqb b b refl) ∙ ap (λ x. not x && true) (ne_eqb a source other),
            )) rising in
            let acks : length size.nodes ≤ 2 + count_by (is_pinged b source) ss
            = reaches-each size.nodes b source (λ s. s.ping.pinger) (is_pinged b source) ss (λ a in_a apart other. (
              record { ping = record { pinger = a; pinged = b }; fate = Acknowledged },
              stretch a b (nodes_there a in_a) there apart,
              refl,
              ap (λ x. x && (not (eqb a source) && true)) (eq-eqb b b refl) ∙ ap (λ x. not x && true) (ne_eqb a source other),
            )) rising in
            let each : messages ≤ unsent_by (before b) - unsent_by (after b)
            = max-le (omega (arith, fell)) (omega (arith, sent, pings, acks)) in
            let now : waits (pending (after b)) ≤ messages = remaining.waits-few size (pending (after b)) in
            let old = less.still same q listed in
            let was : waits (pending (before b)) ≡ messages = remaining.waits-some size old.0 (pending (before b)) old.1 in
            omega (arith, rows, twice, each, fell, now, was)

        by_pending : unsent_by (after b) < unsent_by (before b) → (qs : List Pending) → pending (after b) ≡ qs → left (after b) + messages ≤ left (before b)
        by_pending fell [] e = by_last fell e
        by_pending fell (q ∷ qs) e = by_rest fell q (subst (λ (l : List Pending). In q l) (sym e) (inl refl))

      quiet_or_less : IsQuiet (before b) (after b) ⊎ (left (after b) + messages ≤ left (before b))
      quiet_or_less = elim (cases_lt (news (after b)) (news (before b))) [
        | inl took ↦ inr (by_news took)
        | inr same ↦ elim (cases_lt (unsent_by (after b)) (unsent_by (before b))) [
          | inl fell ↦ inr (by_pending same fell (pending (after b)) refl)
          | inr no_less ↦ inl (record { no_news = same; no_less = no_less })
        ]
      ]

    abbrev IsHeard : Nodes H → List Exchange → ℕ → Type 0
    IsHeard nodes es b = (a : ℕ) → IsThere nodes a → a ≢ b → In (record { taker = a; giver = b; whole = true }) es

    record Stretches (before after : Nodes H) (n : ℕ) : Type 0 where
      es : List Exchange
      goes : Go before after es
      heard : (b : ℕ) → IsThere before b → (left (after b) + n * messages ≤ left (before b)) ⊎ IsHeard before es b

    module _ (rising : IsRising size.nodes) where
      stretches_go : (before after : Nodes H) (rs : List (List SentPing)) → StretchRun hash_of before rs after → AreFit before → ((a : ℕ) → In a size.nodes → IsThere before a)
          → Stretches before after (length rs)
      stretches_go before after [] run fit nodes_there = record {
        es = [];
        goes = go-none before after fit run;
        heard = λ b there. inl (subst (λ (n : Nodes H). left (n b) + 0 * messages ≤ left (before b)) (sym run) (omega arith));
      }
      stretches_go before after (r ∷ rs) run fit nodes_there =
          let one = pings_advance before run.0 r run.2 fit in
          let stay = staying before run.0 one.es fit.are one.goes.run in
          let rest = stretches_go run.0 after rs run.3 one.goes.fit (λ a h. stay.goes_on a (nodes_there a h)) in
          record {
            es = one.es ++ rest.es;
            goes = go-both before run.0 after one.es rest.es one.goes rest.goes;
            heard = λ b there. elim (quiet_or_less before run.0 r run.1 one nodes_there rising b there) [
              | inl quiet ↦ inr (λ a at apart. in_append_left (record { taker = a; giver = b; whole = true }) one.es rest.es (one.wholes a b (run.1 a b at there apart) quiet))
              | inr less ↦ elim (rest.heard b (stay.goes_on b there)) [
                | inl more ↦
                    let row : suc (length rs) * messages ≡ length rs * messages + messages = suc-mul (length rs) messages in
                    inl (omega (arith, less, more, row))
                | inr all ↦ inr (λ a at apart. in_append_right (record { taker = a; giver = b; whole = true }) one.es rest.es (all a (stay.goes_on a at) apart))
              ]
            ];
          }

    -- this number of stretches is a sweep
    are_sweep : (before after : Nodes H) (n top : ℕ) (run : Stretches before after n) → ((b : ℕ) → left (before b) ≤ top) → top < n * messages → IsSweep before run.es
    are_sweep before after n top run few enough a b at_a at_b apart = elim (run.heard b at_b) [
      | inl less ↦ let most : left (before b) ≤ top = few b in absurd (omega (arith, less, most, enough))
      | inr all ↦ all a at_a apart
    ]

    -- stretches in two parts
    parts : (before after : Nodes H) (xs ys : List (List SentPing)) → StretchRun hash_of before (xs ++ ys) after
        → (between : Nodes H) × StretchRun hash_of before xs between × StretchRun hash_of between ys after
    parts before after [] ys run = (before, refl, run)
    parts before after (x ∷ xs) ys run =
        let rest = parts run.0 after xs ys run.3 in
        (rest.0, (run.0, run.1, run.2, rest.1), rest.2)

-- stretches enough

module _ {H : Type 0} (hash_of : H → List ℕ → ℕ) (before after : Nodes H) (stretches : List (List SentPing)) (size : Size) (are : AreNodes before) (within : AreWithin before size)
    (run : StretchRun hash_of before stretches after) (enough : enough_rounds size ≤ length stretches) where
  abbrev status_of : ℕ → Option Status
  status_of a = option_map (λ (node : Node H). (own_change node).status) (before a)

  closed : IsClosed size.changes status_of
  closed c d in_c in_d about own other = by_node (before d.address) refl own
    where
      by_node : (o : Option (Node H)) → before d.address ≡ o → option_map (λ (node : Node H). (own_change node).status) o ≡ Some d.status → In (refutation d c) size.changes
      by_node None e is = let no : None ≡ Some d.status = is in cc
      by_node (Some node) e is =
          let same : (own_change node).status ≡ d.status = cc in
          within.refuted d.address node c d e in_c in_d about refl (sym same) other

  fit : AreFit hash_of size status_of closed before
  fit = record {
    are = are;
    each = λ a node e. record {
      kept = are.kept a node e;
      fit = λ x c h. within.held a x node c e h;
      own_status = ap status_of (are.own a node e) ∙ ap (option_map (λ (n : Node H). (own_change n).status)) e;
      limits = λ n h. within.limits a n node e h;
    };
  }

  few : (b : ℕ) (p : Option (Node H)) → Less size status_of closed (before b) p → remaining.left size status_of closed p ≤ remaining.top size
  few b p less = remaining.left-top size status_of closed (before b) p less (few_news (before b) refl) (few_pending (before b) refl)
    where
      few_news : (o : Option (Node H)) → before b ≡ o → news_of size status_of closed o ≤ size.news
      few_news None e = omega arith
      few_news (Some node) e = within.news b node e

      few_pending : (o : Option (Node H)) → before b ≡ o → length (pending_of size status_of closed o) ≤ size.pending
      few_pending None e = omega arith
      few_pending (Some node) e = within.pending b node e

  abbrev half_of : ℕ
  half_of = quiet_after size

  long-enough : (n : ℕ) → half_of ≤ n → remaining.top size < n * remaining.messages size
  long-enough n h =
      let row : half_of * remaining.messages size ≤ n * remaining.messages size = mul-le-mul_right (remaining.messages size) h in
      let less : remaining.top size < half_of * remaining.messages size = remaining.top-less size in
      omega (arith, row, less)

  converged : HaveConverged before after
  converged =
      let cut = parts hash_of size status_of closed before after (take half_of stretches) (drop half_of stretches)
      (subst (λ (rs : List (List SentPing)). StretchRun hash_of before rs after) (sym (take-append-drop half_of stretches)) run) in
      let one = stretches_go hash_of size status_of closed within.ascending before cut.0 (take half_of stretches) cut.1 fit within.there in
      let stay = staying before cut.0 one.es are one.goes.run in
      let two = stretches_go hash_of size status_of closed within.ascending cut.0 after (drop half_of stretches) cut.2 one.goes.fit (λ a h. stay.goes_on a (within.there a h)) in
      let long : length (take half_of stretches) ≡ half_of = length-take-le half_of stretches (omega (arith, enough)) in
      let more : length (drop half_of stretches) ≡ length stretches - half_of = length-drop half_of stretches in
      let later = are_sweep hash_of size status_of closed cut.0 after (length (drop half_of stretches)) (remaining.top size) two
      (λ b. few b (cut.0 b) (one.goes.less b)) (long-enough (length (drop half_of stretches)) (omega (arith, more, enough))) in
      sweeps_converge before after one.es two.es are
      (run-both before cut.0 after one.es two.es one.goes.run two.goes.run)
      (are_sweep hash_of size status_of closed before cut.0 (length (take half_of stretches)) (remaining.top size) one
      (λ b. few b (before b) (less-same size status_of closed (before b))) (long-enough (length (take half_of stretches)) (omega (arith, long))))
      (λ a b at_a at_b apart. later a b (stay.goes_on a at_a) (stay.goes_on b at_b) apart)

pub stretches_converge : {H : Type 0} (hash_of : H → List ℕ → ℕ) → StretchesConverge hash_of
stretches_converge hash_of before after stretches size are within run enough = converged hash_of before after stretches size are within run enough

-- rounds are stretches of which nothing is lost

abbrev acknowledged : Ping → SentPing
acknowledged p = record { ping = p; fate = Acknowledged }

in-acknowledged : (p : Ping) (ps : List Ping) → In p ps → In (acknowledged p) (map acknowledged ps)
in-acknowledged p [] h = absurd h
in-acknowledged p (q ∷ qs) (inl is) = inl (ap acknowledged is)
in-acknowledged p (q ∷ qs) (inr h) = inr (in-acknowledged p qs h)

module _ {H : Type 0} (hash_of : H → List ℕ → ℕ) where
  as-lossy : (before after : Nodes H) (ps : List Ping) → PingRun hash_of before ps after → LossyRun hash_of before (map acknowledged ps) after
  as-lossy before after [] run = run
  as-lossy before after (p ∷ ps) run = (run.0, run.1, as-lossy run.0 after ps run.2)

  as-stretches : (before after : Nodes H) (rs : List (List Ping)) → RoundRun hash_of before rs after → StretchRun hash_of before (map (map acknowledged) rs) after
  as-stretches before after [] run = run
  as-stretches before after (r ∷ rs) run =
      (run.0, (λ a b at_a at_b apart. in-acknowledged (record { pinger = a; pinged = b }) r (run.1 a b at_a at_b apart)), as-lossy before run.0 r run.2, as-stretches run.0 after rs run.3)

  pub rounds_converge : RoundsConverge hash_of
  rounds_converge before after rounds size are within run enough =
      stretches_converge hash_of before after (map (map acknowledged) rounds) size are within (as-stretches before after rounds run)
      (subst (λ n. enough_rounds size ≤ n) (sym (length-map rounds (map acknowledged))) enough)
