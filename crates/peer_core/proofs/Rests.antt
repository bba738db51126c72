-- What the parts of a round rest on.
use Rattle.std.proofs.Common.{◌≡◌, ◌≢◌, ◌==◌, if◌then◌else◌, ℕ, refl, sym, ap, ◌∙◌, subst, inl, inr, Bool, true, false, Option, Some, None, Result, Ok, Err, List, [], ◌∷◌, ◌++◌, append_assoc, rules, tests}
use Rattle.std.specs.Prelude.{◌⊎◌, All, Contains}
use Rattle.std.proofs.lemmas.List.Elements.{All-contains_itself, All-head, All-tail, Contains-append_left, Contains-append_right, Contains-push}
use Rattle.change_core.specs.declared.addresses.Address.{Address}
use Rattle.detector_core.specs.declared.asked.Said.{Said}
use Rattle.detector_core.specs.declared.asked.Said.TheVariants as said
use Rattle.detector_core.specs.declared.prober.Probe.{Probe}
use Rattle.detector_core.specs.declared.prober.Running.{Running}
use Rattle.message_core.specs.declared.messages.Message.{Message}
use Rattle.node_core.specs.declared.errors.NodeError.{NodeError}
use Rattle.node_core.specs.declared.errors.NodeError.TheVariants as refusal
use Rattle.node_core.specs.declared.events.Event.{Event}
use Rattle.node_core.specs.declared.events.Event.TheVariants as call
use Rattle.node_core.specs.declared.events.NodeLost.{NodeLost}
use Rattle.node_core.specs.declared.events.NodeLost.TheVariants as lost
use Rattle.node_core.specs.declared.events.NodeOutcome.{NodeOutcome}
use Rattle.node_core.specs.declared.events.NodeOutcome.TheVariants as outcome
use Rattle.node_core.specs.declared.events.Reply.{Reply}
use Rattle.node_core.specs.declared.events.Reply.TheVariants as reply
use Rattle.peer_core.specs.declared.errors.ClusterError.TheVariants as error
use Rattle.peer_core.specs.declared.errors.LinkError.{LinkError}
use Rattle.peer_core.specs.declared.hearing.Heard.{Heard}
use Rattle.peer_core.specs.declared.hearing.Heard.TheVariants as heard
use Rattle.peer_core.specs.declared.rounds.Round.{Round}
use Rattle.peer_core.specs.declared.rounds.Round.TheVariants.{Idle, Reached, Suspected}
use Rattle.peer_core.specs.Acts.{Act, OfActs, did}
use Rattle.peer_core.specs.Asking.{IsSent}
use Rattle.peer_core.specs.Errors.{error_of_node}
use Rattle.peer_core.specs.Links.{MayAnswer, IsAckOf, IsOther, TellsOf, word_on}
use Rattle.peer_core.specs.Parts.{Part, onward, ended}
use Rattle.peer_core.specs.Provenance.{last_of, begun_by, named_by, shown_by, unasked, InHand, NoneBegun, pinged, asked, IsReached, IsLost, SaidBy, EndedBy, Ended, RoundsRest, refusal_in, LastRefused, LastStarved, IsWhy, AllRest}
use Rattle.peer_core.specs.Rounds.{said_by, end_by, waited_for, way_of_ending, way_of_waiting, Unless, LooksOn, Expires, TellsWord, Acknowledges, HearsHelper, FailsFrom, AsksHelper, AsksHelpers, FollowsLoss, LosesOnce, GivesUp, HearsTarget, Probes, FinishesBy, Finishes, BeginsAgain, FollowsProbe, Begins, Goes, IsRound}
use Rattle.peer_core.proofs.Hands.{last_behind, last_kept, last_one, Quiet, quiet_none, quiet_more, Rests, rests_ask, rests_call, rests_fail, rests_from, rests_give, rests_next, rests_stronger, rests_try, rests_until, rests_weaker}

module _ {H : Type 0} where
  -- what is among the acts before is among more of them
  later : (start s more : List (Act H)) (x : Act H) → Contains (start ++ s) x → Contains (start ++ (s ++ more)) x
  later start s more x h = subst (λ (zs : List (Act H)). Contains zs x) (append_assoc start s more) (Contains-append_left (start ++ s) more x h)

module _ {H : Type 0} (Came : MayAnswer) where
  -- what came of a question, by what was heard
  abbrev HeardFrom : (Message → Act H) → Address → (Message → Type 0) → Heard → OfActs H
  HeardFrom tell b Wanted (heard.Answer m) s = Quiet s × (q : Message) × Contains s (tell q) × Came b q (Ok m) × Wanted m
  HeardFrom tell b Wanted heard.Other s = Quiet s × (q : Message) × (answer : Result Message LinkError) × Contains s (tell q) × Came b q answer × IsOther Wanted answer
  HeardFrom tell b Wanted heard.OutOfMemory s = LastRefused refusal.Memory s ⊎ LastStarved Came s

  heard_from : (event : Event) (reply_of : Result Message NodeError → Reply) (b : Address) (Wanted : Message → Type 0) (s : List (Act H))
      (named : (n : NodeError) → refusal_in (reply_of (Err n)) ≡ Some n)
      (which : (q : Message) → (did {H = H} event (reply_of (Ok q)) ≡ pinged b q) ⊎ ((target : Address) × (did {H = H} event (reply_of (Ok q)) ≡ asked b target q)))
      (made : Result Message NodeError) (h : Heard) → Quiet (s ++ did event (reply_of made) ∷ []) → IsSent Came b Wanted made h
      → HeardFrom (λ q. did event (reply_of (Ok q))) b Wanted h (s ++ did event (reply_of made) ∷ [])
  heard_from event reply_of b Wanted s named which (Ok q) (heard.Answer m) quiet h =
      (quiet, q, Contains-push s (did event (reply_of (Ok q))), subst (λ (x : Result Message LinkError). Came b q x) h.2.0 h.1, h.2.1)
  heard_from event reply_of b Wanted s named which (Ok q) heard.Other quiet h = (quiet, q, h.0, Contains-push s (did event (reply_of (Ok q))), h.1, h.2)
  heard_from event reply_of b Wanted s named which (Ok q) heard.OutOfMemory quiet h =
      inr (b, q, did event (reply_of (Ok q)), s, refl, which q, subst (λ (x : Result Message LinkError). Came b q x) h.2 h.1)
  heard_from event reply_of b Wanted s named which (Err n) (heard.Answer m) quiet h = cc
  heard_from event reply_of b Wanted s named which (Err n) heard.Other quiet h = cc
  heard_from event reply_of b Wanted s named which (Err n) heard.OutOfMemory quiet h = inl (event, reply_of (Err n), s, refl, named n ∙ ap Some h.0)

  -- the word of a helper is what its answer says
  said_word : (h a : Address) (q m : Message) (before : List (Act H)) (w : Option Bool) → word_on a m.content ≡ w → w ≢ None
      → Contains before (asked h a q) → Came h q (Ok m) → SaidBy Came h a (said_by w) before
  said_word h a q m before (Some true) e n c came = (q, m, c, came, e)
  said_word h a q m before (Some false) e n c came = (q, m, c, came, e)
  said_word h a q m before None e n c came = absurd (n refl)

module _ {H : Type 0} (Came : MayAnswer) where
  -- out of memory for a question, also behind more acts before
  why_out_of_memory : (start s : List (Act H)) → LastRefused refusal.Memory s ⊎ LastStarved Came s → IsWhy Came error.Memory (start ++ s)
  why_out_of_memory start s (inl w) =
      inr (inl (refusal.Memory, refl, (w.0, w.1, start ++ w.2, ap (λ (xs : List (Act H)). start ++ xs) w.3 ∙ sym (append_assoc start w.2 (did w.0 w.1 ∷ [])), w.4)))
  why_out_of_memory start s (inr w) =
      inr (inr (refl, (w.0, w.1, w.2, start ++ w.3, ap (λ (xs : List (Act H)). start ++ xs) w.4 ∙ sym (append_assoc start w.3 (w.2 ∷ [])), w.5, w.6)))

-- a probe of this number and target was in hand at the start
module _ {H : Type 0} (Came : MayAnswer) (now : ℕ) (k : ℕ) (a : Address) (start : List (Act H)) (hand : InHand (unasked k a) start) where
  abbrev probe : Probe
  probe = record { number = k; target = a }

  in_hand : (s : List (Act H)) → Quiet s → InHand (unasked k a) (start ++ s)
  in_hand s q = last_behind shown_by start s q.none_shown ∙ hand

  -- the last act ended the probe so
  abbrev Concluded : Round → OfActs H
  Concluded round s = (rest : List (Act H)) × (act : Act H) × (s ≡ rest ++ act ∷ []) × Quiet rest × Quiet s × EndedBy now k a round act

  -- the target was pinged, and another answer than its Ack came
  abbrev Given : OfActs H
  Given s = Quiet s × IsLost Came a (start ++ s)

  lost_later : (s more : List (Act H)) → IsLost Came a (start ++ s) → IsLost Came a (start ++ (s ++ more))
  lost_later s more l = (l.0, l.1, later start s more (pinged a l.0) l.2, l.3, l.4)

  abbrev EndsSo : Option Round → OfActs H
  EndsSo (Some round) s = Concluded round s
  EndsSo None s = Given s

  -- the same, and these helpers were named last
  abbrev GivenTo : List Address → OfActs H
  GivenTo helpers s = Given s × (last_of named_by (start ++ s) ≡ Some (k, helpers))

  abbrev EndsFor : List Address → Option Round → OfActs H
  EndsFor helpers (Some round) s = Concluded round s
  EndsFor helpers None s = GivenTo helpers s

  named_kept : (s : List (Act H)) (act : Act H) → named_by act ≡ None → last_of named_by (start ++ (s ++ act ∷ [])) ≡ last_of named_by (start ++ s)
  named_kept s act e = ap (λ (zs : List (Act H)). last_of named_by zs) (sym (append_assoc start s (act ∷ []))) ∙ last_kept named_by (start ++ s) act e

  given_more : (helpers : List Address) (s : List (Act H)) (act : Act H) → begun_by act ≡ None → shown_by act ≡ None → named_by act ≡ None
      → GivenTo helpers s → GivenTo helpers (s ++ act ∷ [])
  given_more helpers s act b e n g = ((quiet_more s act b e g.0.0, lost_later s (act ∷ []) g.0.1), named_kept s act n ∙ g.1)

  acknowledges : (ack : Message) → Rests Came now start (HeardFrom Came (pinged a) a (IsAckOf a) (heard.Answer ack)) (Acknowledges now probe ack) Concluded
  acknowledges ack =
      let Taken : OfActs H = λ s. Quiet s × IsReached Came now a (start ++ s) in
      rests_next Came now (λ u. Taken)
      (rests_next Came now (λ r. Taken)
      (rests_call Came now (λ r. Taken) (call.Receive ack now) reply.Receive
      (λ s r h. (
        (refl, (a, h.1, inl (Contains-append_right start s (pinged a h.1) h.2), h.3)),
        (
          quiet_more s (did (call.Receive ack now) (reply.Receive r)) refl refl h.0,
          (h.1, ack, r, start ++ s, sym (append_assoc start s _), Contains-append_right start s (pinged a h.1) h.2, h.3, h.4),
        ),
      )))
      (λ r. rests_give Came now (λ u. Taken) tt (λ s h. h)))
      (λ u. rests_next Came now (λ u. Concluded (Reached a))
      (rests_try Came now (λ u. Concluded (Reached a)) (call.Acked k) reply.Acked
      (λ s u h. (
        (a, in_hand s h.0, h.1),
        (s, did (call.Acked k) (reply.Acked (Ok u)), refl, h.0, quiet_more s (did (call.Acked k) (reply.Acked (Ok u))) refl refl h.0, (refl, refl)),
      ))
      (λ s n h. (a, in_hand s h.0, h.1)) (λ n. refl))
      (λ u. rests_give Came now Concluded (Reached a) (λ s h. h)))

  told : (helpers : List Address) (h : Address) (w : Said) (o : NodeOutcome) (s : List (Act H)) → GivenTo helpers s
      → EndsFor helpers (end_by a o) (s ++ did (call.HelperSaid k h w now) (reply.HelperSaid (Ok o)) ∷ [])
  told helpers h w outcome.Waiting s g = given_more helpers s (did (call.HelperSaid k h w now) (reply.HelperSaid (Ok outcome.Waiting))) refl refl refl g
  told helpers h w outcome.Reached s g =
      let act : Act H = did (call.HelperSaid k h w now) (reply.HelperSaid (Ok outcome.Reached)) in
      (s, act, refl, g.0.0, quiet_more s act refl refl g.0.0, (refl, refl, refl))
  told helpers h w (outcome.Suspect c) s g =
      let act : Act H = did (call.HelperSaid k h w now) (reply.HelperSaid (Ok (outcome.Suspect c))) in
      (s, act, refl, g.0.0, quiet_more s act refl refl g.0.0, (refl, refl, refl))
  told helpers h w outcome.Inconclusive s g =
      let act : Act H = did (call.HelperSaid k h w now) (reply.HelperSaid (Ok outcome.Inconclusive)) in
      (s, act, refl, g.0.0, quiet_more s act refl refl g.0.0, (refl, refl, refl))

  tells : (helpers : List Address) (h : Address) (w : Said)
      → Rests Came now start (λ s. GivenTo helpers s × SaidBy Came h a w (start ++ s)) (TellsWord now k h w) (λ o. EndsFor helpers (end_by a o))
  tells helpers h w =
      rests_try Came now (λ o. EndsFor helpers (end_by a o)) (call.HelperSaid k h w now) reply.HelperSaid
      (λ s o g. ((refl, a, inl (in_hand s g.0.0.0, g.1)), told helpers h w o s g.0))
      (λ s n g. (refl, a, inl (in_hand s g.0.0.0, g.1))) (λ n. refl)

  -- this was heard of the helper, and its target is lost
  abbrev HeardOf : List Address → Address → Heard → OfActs H
  HeardOf helpers h x s = HeardFrom Came (asked h a) h (TellsOf a) x s × IsLost Came a (start ++ s) × (last_of named_by (start ++ s) ≡ Some (k, helpers))

  hears_helper : (helpers : List Address) (h : Address) (x : Heard)
      → Rests Came now start (HeardOf helpers h x) (HearsHelper now probe h x) (λ o. EndsFor helpers (end_by a o))
  hears_helper helpers h (heard.Answer m) =
      rests_next Came now (λ u s. GivenTo helpers s × SaidBy Came h a (said_by (word_on a m.content)) (start ++ s))
      (rests_next Came now (λ r s. GivenTo helpers s × SaidBy Came h a (said_by (word_on a m.content)) (start ++ s))
      (rests_call Came now (λ r s. GivenTo helpers s × SaidBy Came h a (said_by (word_on a m.content)) (start ++ s)) (call.Receive m now) reply.Receive
      (λ s r g.
      let act : Act H = did (call.Receive m now) (reply.Receive r) in
      let q : Message = g.0.1 in
      let c : Contains (start ++ s) (asked h a q) = Contains-append_right start s (asked h a q) g.0.2 in (
        (refl, (h, q, inr (a, c), g.0.3)),
        (
          given_more helpers s act refl refl refl ((g.0.0, g.1), g.2),
          said_word Came h a q m (start ++ (s ++ act ∷ [])) (word_on a m.content) refl g.0.4 (later start s (act ∷ []) (asked h a q) c) g.0.3,
        ),
      )))
      (λ r. rests_give Came now (λ u s. GivenTo helpers s × SaidBy Came h a (said_by (word_on a m.content)) (start ++ s)) tt (λ s g. g)))
      (λ u. tells helpers h (said_by (word_on a m.content)))
  hears_helper helpers h heard.Other =
      rests_weaker Came now
      (λ s g. (((g.0.0, g.1), g.2), (g.0.1, g.0.2, Contains-append_right start s (asked h a g.0.1) g.0.3, g.0.4, g.0.5)))
      (tells helpers h said.Failed)
  hears_helper helpers h heard.OutOfMemory = rests_fail Came now _ _ (λ s g. why_out_of_memory Came start s g.0)

  asks_helper : (helpers : List Address) (h : Address) → Contains helpers h
      → Rests Came now start (GivenTo helpers) (AsksHelper Came now probe h) (λ o. EndsFor helpers (end_by a o))
  asks_helper helpers h among =
      rests_next Came now (HeardOf helpers h)
      (rests_ask Came now (HeardOf helpers h) (call.PingReqTo h a) reply.PingReqTo h (TellsOf a)
      (λ s made g. (k, in_hand s g.0.0, (helpers, g.1, among)))
      (λ s made x g sent. (
        heard_from Came (call.PingReqTo h a) reply.PingReqTo h (TellsOf a) s (λ n. refl) (λ q. inr (a, refl)) made x (quiet_more s (did (call.PingReqTo h a) (reply.PingReqTo made)) refl refl g.0.0) sent,
        lost_later s (did (call.PingReqTo h a) (reply.PingReqTo made) ∷ []) g.0.1,
        named_kept s (did (call.PingReqTo h a) (reply.PingReqTo made)) refl ∙ g.1,
      )))
      (λ x. hears_helper helpers h x)

  unless : (helpers : List Address) (end : Option Round) (Rest : Part H (Option Round)) → Rests Came now start (GivenTo helpers) Rest (EndsFor helpers)
      → Rests Came now start (EndsFor helpers end) (Unless end Rest) (EndsFor helpers)
  unless helpers None Rest d = d
  unless helpers (Some round) Rest d = rests_give Came now (EndsFor helpers) (Some round) (λ s g. g)

  asks_helpers : (helpers hs : List Address) → All (Contains helpers) hs → Rests Came now start (GivenTo helpers) (AsksHelpers Came now probe hs) (EndsFor helpers)
  asks_helpers helpers [] among = rests_give Came now (EndsFor helpers) None (λ s g. g)
  asks_helpers helpers (h ∷ hs) among =
      rests_next Came now (λ o. EndsFor helpers (end_by a o)) (asks_helper helpers h (All-head (Contains helpers) h hs among))
      (λ o. unless helpers (end_by a o) (AsksHelpers Came now probe hs) (asks_helpers helpers hs (All-tail (Contains helpers) h hs among)))

  ends_so : (helpers : List Address) (end : Option Round) (s : List (Act H)) → EndsFor helpers end s → EndsSo end s
  ends_so helpers None s g = g.0
  ends_so helpers (Some round) s g = g

  abbrev LostSo : NodeLost → OfActs H
  LostSo (lost.Ask hs) s = GivenTo hs s
  LostSo (lost.Suspect c) s = Concluded (Suspected a) s

  was_lost : (l : NodeLost) (s : List (Act H)) → Given s → LostSo l (s ++ did (call.Lost k now) (reply.Lost (Ok l)) ∷ [])
  was_lost (lost.Ask hs) s g =
      let act : Act H = did (call.Lost k now) (reply.Lost (Ok (lost.Ask hs))) in (
        (quiet_more s act refl refl g.0, lost_later s (act ∷ []) g.1),
        ap (λ (zs : List (Act H)). last_of named_by zs) (sym (append_assoc start s (act ∷ []))) ∙ last_one named_by (start ++ s) act,
      )
  was_lost (lost.Suspect c) s g =
      let act : Act H = did (call.Lost k now) (reply.Lost (Ok (lost.Suspect c))) in
      (s, act, refl, g.0, quiet_more s act refl refl g.0, (refl, refl, refl))

  follows_loss : (l : NodeLost) → Rests Came now start (LostSo l) (FollowsLoss Came now probe l) EndsSo
  follows_loss (lost.Ask hs) = rests_stronger Came now (EndsFor hs) (ends_so hs) (asks_helpers hs hs (All-contains_itself hs))
  follows_loss (lost.Suspect c) = rests_give Came now EndsSo (Some (Suspected a)) (λ s g. g)

  loses_once : Rests Came now start Given (LosesOnce Came now probe) EndsSo
  loses_once =
      rests_next Came now LostSo
      (rests_try Came now LostSo (call.Lost k now) reply.Lost
      (λ s l g. ((refl, a, in_hand s g.0, g.1), was_lost l s g))
      (λ s n g. (refl, a, in_hand s g.0, g.1)) (λ n. refl))
      (λ l. follows_loss l)

  goes_on : (x : Option Round) (t : Unit {0}) (xs : List (Act H)) → way_of_ending x ≡ onward t → EndsSo x xs → Given xs
  goes_on None t xs e g = g
  goes_on (Some round) t xs e g = cc

  comes_to : (x : Option Round) (round : Round) (xs : List (Act H)) → way_of_ending x ≡ ended round → EndsSo x xs → Concluded round xs
  comes_to None round xs e g = cc
  comes_to (Some x) round xs e g = let same : x ≡ round = cc in subst (λ (y : Round). Concluded y xs) same g

  gives_up : Rests Came now start Given (GivesUp Came now probe) Concluded
  gives_up = rests_until Came now (λ u. Given) EndsSo (λ u. loses_once) goes_on comes_to tt

  hears_target : (x : Heard) → Rests Came now start (HeardFrom Came (pinged a) a (IsAckOf a) x) (HearsTarget Came now probe x) Concluded
  hears_target (heard.Answer ack) = acknowledges ack
  hears_target heard.Other =
      rests_weaker Came now (λ s g. (g.0, (g.1, g.2, Contains-append_right start s (pinged a g.1) g.3, g.4, g.5))) gives_up
  hears_target heard.OutOfMemory = rests_fail Came now _ _ (λ s g. why_out_of_memory Came start s g)

  pub probes : Rests Came now start (λ s. s ≡ []) (Probes Came now probe) Concluded
  probes =
      rests_next Came now (HeardFrom Came (pinged a) a (IsAckOf a))
      (rests_ask Came now (HeardFrom Came (pinged a) a (IsAckOf a)) (call.PingTo a) reply.PingTo a (IsAckOf a)
      (λ s made e. (k, in_hand s (subst (λ (zs : List (Act H)). Quiet zs) (sym e) quiet_none)))
      (λ s made x e sent.
      heard_from Came (call.PingTo a) reply.PingTo a (IsAckOf a) s (λ n. refl) (λ q. inl refl) made x
      (quiet_more s (did (call.PingTo a) (reply.PingTo made)) refl refl (subst (λ (zs : List (Act H)). Quiet zs) (sym e) quiet_none)) sent))
      hears_target

-- what a probe that runs is, by its parts
same_running : (running : Running) (k : ℕ) (w : Option Address) → running.number ≡ k → running.waiting ≡ w
    → running ≡ record { number = k; target = running.target; waiting = w }
same_running running k w e f =
    subst (λ (n : ℕ). running ≡ record { number = n; target = running.target; waiting = w }) e
    (subst (λ (v : Option Address). running ≡ record { number = running.number; target = running.target; waiting = v }) f refl)

module _ {H : Type 0} (Came : MayAnswer) (now : ℕ) where
  fresh_more : (s : List (Act H)) (act : Act H) → begun_by act ≡ None → NoneBegun s → NoneBegun (s ++ act ∷ [])
  fresh_more s act e f = last_kept begun_by s act e ∙ f

  expires : Rests Came now [] (NoneBegun {H = H}) (Expires now) (λ u. NoneBegun)
  expires =
      rests_until Came now (λ u. NoneBegun) (λ x. NoneBegun)
      (λ u. rests_try Came now (λ x. NoneBegun) (call.Expire now) reply.Expire
      (λ s x f. (refl, fresh_more s (did (call.Expire now) (reply.Expire (Ok x))) refl f)) (λ s n f. refl) (λ n. refl))
      (λ x t xs e f. f) (λ x u xs e f. f) tt

  -- the probe in hand has this number and waits for this helper
  abbrev Waits : ℕ → Address → OfActs H
  Waits k h s = (a : Address) × InHand (record { number = k; target = a; waiting = Some h }) s × NoneBegun s

  abbrev WaitsOn : ℕ → Option Address → OfActs H
  WaitsOn k (Some h) s = Waits k h s
  WaitsOn k None s = NoneBegun s

  looked_at : (k : ℕ) (running : Running) (s : List (Act H)) (w : Option Address) → running.number ≡ k → running.waiting ≡ w → NoneBegun s
      → WaitsOn k w (s ++ did call.Running (reply.Running (Some running)) ∷ [])
  looked_at k running s (Some h) e f fresh =
      let act : Act H = did call.Running (reply.Running (Some running)) in
      (running.target, last_one shown_by s act ∙ ap Some (same_running running k (Some h) e f), fresh_more s act refl fresh)
  looked_at k running s None e f fresh = fresh_more s (did call.Running (reply.Running (Some running))) refl fresh

  looked_by : (k : ℕ) (running : Running) (s : List (Act H)) (b : Bool) → (running.number == k) ≡ b → NoneBegun s
      → WaitsOn k (if b then running.waiting else None) (s ++ did call.Running (reply.Running (Some running)) ∷ [])
  looked_by k running s true e fresh = looked_at k running s running.waiting (search (rules, tests)) refl fresh
  looked_by k running s false e fresh = fresh_more s (did call.Running (reply.Running (Some running))) refl fresh

  looked : (k : ℕ) (found : Option Running) (s : List (Act H)) → NoneBegun s → WaitsOn k (waited_for k found) (s ++ did call.Running (reply.Running found) ∷ [])
  looked k (Some running) s fresh = looked_by k running s (running.number == k) refl fresh
  looked k None s fresh = fresh_more s (did call.Running (reply.Running None)) refl fresh

  looks_on : (k : ℕ) (o : NodeOutcome) → Rests Came now [] (NoneBegun {H = H}) (LooksOn k o) (WaitsOn k)
  looks_on k outcome.Waiting =
      rests_next Came now (λ found. WaitsOn k (waited_for k found))
      (rests_call Came now (λ found. WaitsOn k (waited_for k found)) call.Running reply.Running (λ s found f. (f, looked k found s f)))
      (λ found. rests_give Came now (WaitsOn k) (waited_for k found) (λ s g. g))
  looks_on k outcome.Reached = rests_give Came now (WaitsOn k) None (λ s f. f)
  looks_on k (outcome.Suspect c) = rests_give Came now (WaitsOn k) None (λ s f. f)
  looks_on k outcome.Inconclusive = rests_give Came now (WaitsOn k) None (λ s f. f)

  waits_still : (k : ℕ) (x : Option Address) (h : Address) (xs : List (Act H)) → way_of_waiting x ≡ onward h → WaitsOn k x xs → Waits k h xs
  waits_still k (Some x) h xs e g = let same : x ≡ h = cc in subst (λ (y : Address). Waits k y xs) same g
  waits_still k None h xs e g = cc

  waits_no_more : (k : ℕ) (x : Option Address) (u : Unit {0}) (xs : List (Act H)) → way_of_waiting x ≡ ended u → WaitsOn k x xs → NoneBegun xs
  waits_no_more k (Some x) u xs e g = cc
  waits_no_more k None u xs e g = g

  fails_from : (k : ℕ) (h : Address) → Rests Came now [] (Waits k h) (FailsFrom now k h) (λ u. NoneBegun)
  fails_from k h =
      rests_until Came now (Waits k) (WaitsOn k)
      (λ h. rests_next Came now (λ o. NoneBegun)
      (rests_try Came now (λ o. NoneBegun) (call.HelperSaid k h said.Failed now) reply.HelperSaid
      (λ s o g. ((refl, g.0, inr (g.1, refl)), fresh_more s (did (call.HelperSaid k h said.Failed now) (reply.HelperSaid (Ok o))) refl g.2))
      (λ s n g. (refl, g.0, inr (g.1, refl))) (λ n. refl))
      (λ o. looks_on k o))
      (waits_still k) (waits_no_more k) h

  finishes_by : (k a : ℕ) (w : Option Address)
      → Rests Came now [] (λ s. InHand {H = H} (record { number = k; target = a; waiting = w }) s × NoneBegun s) (FinishesBy Came now (record { number = k; target = a; waiting = w }) w)
      (λ u. NoneBegun)
  finishes_by k a (Some h) = rests_weaker Came now (λ s g. (a, g.0, g.1)) (fails_from k h)
  finishes_by k a None =
      rests_next Came now (λ round. NoneBegun)
      (rests_from Came now (λ round. NoneBegun)
      (λ start g.
      rests_stronger Came now (Concluded Came now k a start g.0) (λ round s c. last_behind begun_by start s c.4.none_begun ∙ g.1) (probes Came now k a start g.0)))
      (λ round. rests_give Came now (λ u. NoneBegun) tt (λ s f. f))

  abbrev FoundSo : Option Running → OfActs H
  FoundSo (Some running) s = InHand running s × NoneBegun s
  FoundSo None s = NoneBegun s

  found_so : (found : Option Running) (s : List (Act H)) → NoneBegun s → FoundSo found (s ++ did call.Running (reply.Running found) ∷ [])
  found_so (Some running) s f =
      let act : Act H = did call.Running (reply.Running (Some running)) in (last_one shown_by s act, fresh_more s act refl f)
  found_so None s f = fresh_more s (did call.Running (reply.Running None)) refl f

  finishes : (found : Option Running) → Rests Came now [] (FoundSo found) (Finishes Came now found) (λ u. NoneBegun)
  finishes (Some running) = finishes_by running.number running.target running.waiting
  finishes None = rests_give Came now (λ u. NoneBegun) tt (λ s f. f)

  -- a probe was begun, and is in hand; or no member can be probed
  abbrev BegunSo : Option Probe → OfActs H
  BegunSo (Some probe) s = (last_of begun_by s ≡ Some probe) × InHand (unasked probe.number probe.target) s
  BegunSo None s = (prefix : List (Act H)) × (s ≡ prefix ++ did call.Probe (reply.Probe (Ok None)) ∷ [])

  begun_so : (probe : Option Probe) (s : List (Act H)) → BegunSo probe (s ++ did call.Probe (reply.Probe (Ok probe)) ∷ [])
  begun_so (Some probe) s =
      let act : Act H = did call.Probe (reply.Probe (Ok (Some probe))) in (last_one begun_by s act, last_one shown_by s act)
  begun_so None s = (s, refl)

  begins_again : Rests Came now [] NoneBegun (BeginsAgain Came now) BegunSo
  begins_again =
      rests_next Came now (λ u. NoneBegun)
      (rests_next Came now FoundSo (rests_call Came now FoundSo call.Running reply.Running (λ s found f. (f, found_so found s f))) finishes)
      (λ u. rests_try Came now BegunSo call.Probe reply.Probe (λ s probe f. (f, begun_so probe s)) (λ s n f. f) (λ n. refl))

  abbrev ProbedSo : Result (Option Probe) NodeError → OfActs H
  ProbedSo (Ok probe) s = BegunSo probe s
  ProbedSo (Err n) s = NoneBegun s × LastRefused n s

  probed_so : (r : Result (Option Probe) NodeError) (s : List (Act H)) → NoneBegun s → ProbedSo r (s ++ did call.Probe (reply.Probe r) ∷ [])
  probed_so (Ok probe) s f = begun_so probe s
  probed_so (Err n) s f = (fresh_more s (did call.Probe (reply.Probe (Err n))) refl f, (call.Probe, reply.Probe (Err n), s, refl, refl))

  follows_probe : (r : Result (Option Probe) NodeError) → Rests Came now [] (ProbedSo r) (FollowsProbe Came now r) BegunSo
  follows_probe (Ok probe) = rests_give Came now BegunSo probe (λ s g. g)
  follows_probe (Err refusal.Busy) = rests_weaker Came now (λ s g. g.0) begins_again
  follows_probe (Err n) = rests_fail Came now BegunSo (error_of_node n) (λ s g. inr (inl (n, refl, g.1)))

  begins : Rests Came now [] NoneBegun (Begins Came now) BegunSo
  begins = rests_next Came now ProbedSo (rests_call Came now ProbedSo call.Probe reply.Probe (λ s r f. (f, probed_so r s f))) follows_probe

  goes : (probe : Option Probe) → Rests Came now [] (BegunSo probe) (Goes Came now probe) (Ended now)
  goes None = rests_give Came now (Ended now) Idle (λ s g. inl (refl, g.0, g.1))
  goes (Some probe) =
      rests_from Came now (Ended now)
      (λ start g.
      rests_stronger Came now (Concluded Came now probe.number probe.target start g.1)
      (λ round s c. inr (
        probe.number,
        probe.target,
        start ++ c.0,
        c.1,
        ap (λ (zs : List (Act H)). start ++ zs) c.2 ∙ sym (append_assoc start c.0 (c.1 ∷ [])),
        last_behind begun_by start c.0 c.3.none_begun ∙ g.0,
        c.5,
      ))
      (probes Came now probe.number probe.target start g.1))

  round : Rests Came now [] (NoneBegun {H = H}) (IsRound Came now) (Ended now)
  round = rests_next Came now (λ u. NoneBegun) expires (λ u. rests_next Came now BegunSo begins goes)

pub rounds_rest : {H : Type 0} (Came : MayAnswer) → RoundsRest H Came
rounds_rest Came now (Ok result) acts p =
    let x : AllRest Came now [] acts × Ended now result acts = (round Came now).rests [] acts (Ok result) refl p in (x.0, x.1, tt)
rounds_rest Came now (Err e) acts p =
    let x : AllRest Came now [] acts × IsWhy Came e acts = (round Came now).rests [] acts (Err e) refl p in (x.0, tt, x.1)
