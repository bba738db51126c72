-- What goes over a link, one act after the other.
use Rattle.std.proofs.Common.{◌≡◌, ℕ, ◌+◌, ◌<◌, length, get_or, drop, append_assoc, false, is_ok, refl, sym, ap, ◌∙◌, subst, inl, inr, arith, ◌≤◌, suc, Option, Some, None, Result, Ok, Err, List, [], ◌∷◌, ◌++◌}
use denote.Ref.{MutBor}
use Rattle.std.proofs.lemmas.List.{append_cancel_left}
use Rattle.change_core.specs.declared.addresses.Address.{Address}
use Rattle.message_core.specs.declared.messages.Message.{Message}
use Rattle.node_core.specs.declared.errors.NodeError.{NodeError}
use Rattle.node_core.specs.declared.events.Event.{Event}
use Rattle.node_core.specs.declared.events.Event.TheVariants as call
use Rattle.node_core.specs.declared.events.Reply.{Reply}
use Rattle.node_core.specs.declared.events.Reply.TheVariants as reply
use Rattle.node_core.specs.Calls.{OfEvent, WithReply}
use Rattle.turn_lock.specs.Passes as lock
use Rattle.locked_node.specs.declared.node.LockedNode.{LockedNode}
use Rattle.locked_node.specs.History.{CallEntry}
use Rattle.locked_node.specs.Passes.{NodePass, IsCalled}
use Rattle.peer_core.specs.declared.errors.ClusterError.{ClusterError}
use Rattle.peer_core.specs.declared.healing.Choice.{Choice}
use Rattle.peer_core.specs.declared.healing.Draws.{Draws}
use Rattle.peer_core.specs.declared.hearing.Heard.{Heard}
use Rattle.peer_core.specs.Acts.{Act, OfActs, acts_of, did, Then, Makes}
use Rattle.peer_core.specs.Asking.{Pinged}
use Rattle.peer_core.specs.Exchanges.{Errand, stays, goes_to, joins, errand_of, IsPart, GoesOver, GoesTimes, listed, messages_in, joins_in, one_if_join, one_if_sent, CallsAgree, Runs, Sends, SendingsCount, SendsByDraws, SendsTo, SendsToPinged, Sent, SentAs, chosen_hosts, pinged_by, pinged_in}
use Rattle.peer_core.specs.Healing.{Chooses}
use Rattle.peer_core.specs.Links.{MayAnswer, Went}
use Rattle.peer_core.specs.Parts.{Part, Turn, Asks, Calls, Tries, Gives, Fails, Next, Until, Does}
use Rattle.peer_core.proofs.Acts.{makes_none, makes_one, makes_then, makes_as}
use Rattle.peer_core.proofs.Turns.{drop_here}

pub calls_agree : {H : Type 0} → CallsAgree H
calls_agree locked p q es fs m n = append_cancel_left (lock.calls_of p) es fs (sym m.calls ∙ n.calls)

module _ {A : Type 0} where
  part_behind : (xs : List A) (y : A) (ys : List A) → IsPart xs ys → IsPart xs (y ∷ ys)
  part_behind [] y ys h = tt
  part_behind (x ∷ xs) y ys h = inr h

  part_all : (xs : List A) → IsPart xs xs
  part_all [] = tt
  part_all (x ∷ xs) = inl (refl, part_all xs)

  -- with others before them
  pub part_later : (before xs ys : List A) → IsPart xs ys → IsPart xs (before ++ ys)
  part_later [] xs ys h = h
  part_later (b ∷ before) xs ys h = part_behind xs b (before ++ ys) (part_later before xs ys h)

  -- and behind them
  part_sooner : (xs ys behind : List A) → IsPart xs ys → IsPart xs (ys ++ behind)
  part_sooner [] ys behind h = tt
  part_sooner (x ∷ xs) [] behind h = absurd h
  part_sooner (x ∷ xs) (y ∷ ys) behind (inl h) = inl (h.0, part_sooner xs ys behind h.1)
  part_sooner (x ∷ xs) (y ∷ ys) behind (inr h) = inr (part_sooner (x ∷ xs) ys behind h)

  part_append : (xs all ys more : List A) → IsPart xs all → IsPart ys more → IsPart (xs ++ ys) (all ++ more)
  part_append [] all ys more h k = part_later all ys more k
  part_append (x ∷ xs) [] ys more h k = absurd h
  part_append (x ∷ xs) (y ∷ all) ys more (inl h) k = inl (h.0, part_append xs all ys more h.1 k)
  part_append (x ∷ xs) (y ∷ all) ys more (inr h) k = inr (part_append (x ∷ xs) all ys more h k)

  -- none are part of any
  part_none : (xs ys : List A) → IsPart xs [] → IsPart xs ys
  part_none [] ys h = tt
  part_none (x ∷ xs) ys h = absurd h

module _ {L : Type 0} (went : Went L) where
  runs_more : (e : Errand) (hs left ks : List Address) (a b : L) → Runs went e hs left a b → Runs went e (hs ++ ks) (left ++ ks) a b
  runs_more stays hs left ks a b r = (ap (λ (xs : List Address). xs ++ ks) r.0, r.1)
  runs_more (goes_to to message) hs left ks a b r = (ap (λ (xs : List Address). xs ++ ks) r.0, r.1)
  runs_more (joins message) hs left ks a b r = (r.0, ap (λ (xs : List Address). xs ++ ks) r.1, r.2)

  module _ {H : Type 0} where
    pub sends_append : (hs ks : List Address) (a b c : L) (xs ys : List (Act H)) → Sends went hs a b xs → Sends went ks b c ys → Sends went (hs ++ ks) a c (xs ++ ys)
    sends_append hs ks a b c [] ys s t =
        subst (λ (zs : List Address). Sends went (zs ++ ks) a c ys) (sym s.0) (subst (λ (x : L). Sends went ks x c ys) s.1 t)
    sends_append hs ks a b c (x ∷ xs) ys s t =
        (s.0 ++ ks, s.1, runs_more (errand_of x) hs s.0 ks a s.1 s.2, sends_append s.0 ks s.1 b c xs ys s.3 t)

module _ {H : Type 0} where
  -- no act has an errand
  abbrev pub Silent : OfActs H
  Silent [] = Unit {0}
  Silent (act ∷ acts) = (errand_of act ≡ stays) × Silent acts

  silent_append : (xs ys : List (Act H)) → Silent xs → Silent ys → Silent (xs ++ ys)
  silent_append [] ys s t = t
  silent_append (x ∷ xs) ys s t = (s.0, silent_append xs ys s.1 t)

  pub silent_none : (acts : List (Act H)) → acts ≡ [] → Silent acts
  silent_none acts e = subst Silent (sym e) tt

  pub silent_one : (acts : List (Act H)) (act : Act H) → acts ≡ act ∷ [] → errand_of act ≡ stays → Silent acts
  silent_one acts act e h = subst Silent (sym e) (h, tt)

  -- A part none of whose acts has an errand.
  pub record Hushes {A : Type 0} (P : Part H A) : Type 0 where
    pub silent : (r : Result A ClusterError) (acts : List (Act H)) → P r acts → Silent acts

  pub hushes_calls : {A : Type 0} (event : Event) (reply_of : A → Reply)
      → ((a : A) → errand_of {H = H} (did event (reply_of a)) ≡ stays) → Hushes (Calls event reply_of)
  hushes_calls {A} event reply_of f = record { silent = go }
    where
      go : (r : Result A ClusterError) (acts : List (Act H)) → Calls event reply_of r acts → Silent acts
      go (Ok a) acts h = silent_one acts (did event (reply_of a)) h (f a)
      go (Err e) acts h = silent_none acts h.0

  pub hushes_tries : {A : Type 0} (event : Event) (reply_of : Result A NodeError → Reply)
      → ((a : Result A NodeError) → errand_of {H = H} (did event (reply_of a)) ≡ stays) → Hushes (Tries event reply_of)
  hushes_tries {A} event reply_of f = record { silent = go }
    where
      go : (r : Result A ClusterError) (acts : List (Act H)) → Tries event reply_of r acts → Silent acts
      go (Ok a) acts h = silent_one acts (did event (reply_of (Ok a))) h (f (Ok a))
      go (Err e) acts (inl h) = silent_none acts h.0
      go (Err e) acts (inr h) = silent_one acts (did event (reply_of (Err h.0))) h.1 (f (Err h.0))

  pub hushes_gives : {A : Type 0} (a : A) → Hushes {A = A} (Gives a)
  hushes_gives a = record { silent = λ r acts h. silent_none acts h.0 }

  pub hushes_fails : {A : Type 0} (e : ClusterError) → Hushes {A = A} (Fails e)
  hushes_fails e = record { silent = λ r acts h. silent_none acts h.0 }

  pub hushes_next : {A B : Type 0} {First : Part H A} {Rest : A → Part H B} → Hushes First → ((a : A) → Hushes (Rest a)) → Hushes (Next First Rest)
  hushes_next {A} {B} {First} {Rest} f g = record { silent = go }
    where
      go : (r : Result B ClusterError) (acts : List (Act H)) → Next First Rest r acts → Silent acts
      go (Ok b) acts (inl h) = absurd h
      go (Err e) acts (inl h) = f.silent (Err e) acts h
      go r acts (inr t) = subst Silent (sym t.1.2) (silent_append t.1.0 t.1.1 (f.silent (Ok t.0) t.1.0 t.1.3) ((g t.0).silent r t.1.1 t.1.4))

  pub hushes_until : {S X A : Type 0} {Step : S → Part H X} {way : X → Turn S A} → ((s : S) → Hushes (Step s)) → (s : S) → Hushes (Until Step way s)
  hushes_until {S} {X} {A} {Step} {way} f u = record { silent = go u }
    where
      go : (u : S) (r : Result A ClusterError) (acts : List (Act H)) → Until Step way u r acts → Silent acts
      go u r acts (Until.ends {acts = xs} x a p e) = (f u).silent (Ok x) xs p
      go u r acts (Until.stops {acts = xs} e p) = (f u).silent (Err e) xs p
      go u r acts (Until.goes_on {r = q} {first = xs} {rest = ys} x t p e more) = silent_append xs ys ((f u).silent (Ok x) xs p) (go t q ys more)

module _ {L H : Type 0} (went : Went L) where
  pub sends_silent : (b : L) (acts : List (Act H)) → Silent acts → Sends went [] b b acts
  sends_silent b [] s = (refl, refl)
  sends_silent b (x ∷ xs) s = ([], b, subst (λ (e : Errand). Runs went e [] [] b b) (sym s.0) (refl, refl), sends_silent b xs s.1)

  -- the messages of the first acts, and then those of the others
  pub sends_then : (hs ks : List Address) (a b c : L) (acts : List (Act H)) → Then (SendsTo went hs a b) (SendsTo went ks b c) acts → SendsTo went (hs ++ ks) a c acts
  sends_then hs ks a b c acts t = (
    t.3.0 ++ t.4.0,
    part_append t.3.0 hs t.4.0 ks t.3.1 t.4.1,
    subst (λ (xs : List (Act H)). Sends went (t.3.0 ++ t.4.0) a c xs) (sym t.2) (sends_append went t.3.0 t.4.0 a b c t.0 t.1 t.3.2 t.4.2),
  )

module _ {H : Type 0} where
  pinged_append : (xs ys : List (Act H)) → pinged_in (xs ++ ys) ≡ pinged_in xs ++ pinged_in ys
  pinged_append [] ys = refl
  pinged_append (x ∷ xs) ys =
      ap (λ (hs : List Address). pinged_by x ++ hs) (pinged_append xs ys) ∙ sym (append_assoc (pinged_by x) (pinged_in xs) (pinged_in ys))

  pinged_both : (acts xs ys : List (Act H)) → acts ≡ xs ++ ys → pinged_in acts ≡ pinged_in xs ++ pinged_in ys
  pinged_both acts xs ys e = ap pinged_in e ∙ pinged_append xs ys

  -- the same acts, of which both are said
  makes_both : {locked : LockedNode H} {P Q : OfActs H} {p q : NodePass H}
      → Makes locked P p q → Makes locked Q p q → Makes locked (λ acts. P acts × Q acts) p q
  makes_both {locked} {P} {Q} {p} {q} m n = record {
    entries = m.entries;
    made = m.made;
    so = (m.so, subst (λ (es : List (CallEntry H)). Q (acts_of es)) (calls_agree locked p q n.entries m.entries n.made m.made) n.so);
  }

module _ {L H : Type 0} (went : Went L) where
  -- first no Join, and then some to members that were pinged
  pinged_later : (a b c : L) (acts : List (Act H)) → Then (SendsTo went [] a b) (SendsToPinged went b c) acts → SendsToPinged went a c acts
  pinged_later a b c acts t =
      let (asked, part, sends) = sends_then went [] (pinged_in t.1) a b c acts (t.0, t.1, t.2, t.3, t.4) in
      (asked, subst (IsPart asked) (sym (pinged_both acts t.0 t.1 t.2)) (part_later (pinged_in t.0) asked (pinged_in t.1) part), sends)

  -- first a Ping, and then Joins to its target
  pinged_first : (Came : MayAnswer) (target : Address) (heard : Heard) (a b c : L) (acts : List (Act H))
      → Then (λ acts. Asks (Pinged Came target) (Ok heard) acts × SendsTo went [] a b acts) (SendsTo went (target ∷ []) b c) acts → SendsToPinged went a c acts
  pinged_first Came target heard a b c acts t =
      let (asked, part, sends) = sends_then went [] (target ∷ []) a b c acts (t.0, t.1, t.2, t.3.1, t.4) in
      let first : pinged_in t.0 ≡ target ∷ [] = ap pinged_in t.3.0.1 in
      let whole : pinged_in acts ≡ (target ∷ []) ++ pinged_in t.1 = pinged_both acts t.0 t.1 t.2 ∙ ap (λ (hs : List Address). hs ++ pinged_in t.1) first in
      (asked, subst (IsPart asked) (sym whole) (part_sooner asked (target ∷ []) (pinged_in t.1) part), sends)

module _ {L H : Type 0} (went : Went L) where
  -- The Joins to the first of the hosts were sent, as many as this.
  pub record JoinsSome (locked : LockedNode H) (hosts : List Address) (i : ℕ) (p q : NodePass H) (a b : MutBor L) : Type 0 where
    pub first : List Address
    pub all : first ++ drop i hosts ≡ hosts
    pub sent : Sent went locked first p q a b

-- what was sent over the link that is lent, as of the link itself
pub sent_as_over : {L H : Type 0} {locked : LockedNode H} {p q : NodePass H} {a b : MutBor L} {x y : L} (So : L → L → OfActs H)
    → a.now ≡ x → y ≡ b.now → SentAs So locked p q a b → Makes locked (So x y) p q
sent_as_over {locked = locked} {p = p} {q = q} {a = a} {b = b} {x = x} {y = y} So e f s =
    subst (λ z. Makes locked (So z y) p q) e (subst (λ z. Makes locked (So a.now z) p q) (sym f) s.makes)

module _ {L H : Type 0} (went : Went L) {locked : LockedNode H} where
  -- no Join was sent, whatever the numbers
  pub sent_drawn_none : {p q : NodePass H} {a b : MutBor L} (hosts : List Address) (draws : Option Draws)
      → Sent went locked [] p q a b → SentAs (SendsByDraws went hosts draws) locked p q a b
  sent_drawn_none {a = a} {b = b} hosts None s = record { same = s.same; makes = makes_as (SendsByDraws went hosts None a.now b.now) (λ acts h. h) s.makes }
  sent_drawn_none {a = a} {b = b} hosts (Some draws) s = record {
    same = s.same;
    makes = makes_as (SendsByDraws went hosts (Some draws) a.now b.now) (λ acts h. inl h) s.makes;
  }

  -- over the link itself, by the hosts and the numbers that are known
  pub sent_drawn_over : {p q : NodePass H} {a b : MutBor L} {x y : L} {hosts known : List Address} {draws given : Option Draws}
      → known ≡ hosts → given ≡ draws → a.now ≡ x → y ≡ b.now → SentAs (SendsByDraws went known given) locked p q a b
      → Makes locked (SendsByDraws went hosts draws x y) p q
  sent_drawn_over {p} {q} {a} {b} {x} {y} {hosts} {known} {draws} {given} is are e f s =
      sent_as_over (SendsByDraws went hosts draws) e f
      (subst (λ (hs : List Address). SentAs (SendsByDraws went hs draws) locked p q a b) is
      (subst (λ (o : Option Draws). SentAs (SendsByDraws went known o) locked p q a b) are s))

module _ {L H : Type 0} {went : Went L} {locked : LockedNode H} where
  pub sent_then : {hs ks : List Address} {p q s : NodePass H} {a b c : MutBor L}
      → Sent went locked hs p q a b → Sent went locked ks q s b c → Sent went locked (hs ++ ks) p s a c
  sent_then {hs} {ks} {p} {q} {s} {a} {b} {c} x y = record {
    same = y.same ∙ x.same;
    makes = makes_as (SendsTo went (hs ++ ks) a.now c.now) (sends_then went hs ks a.now b.now c.now) (makes_then x.makes y.makes);
  }

  -- nothing was done
  pub sent_none : {p : NodePass H} {a : MutBor L} (hosts : List Address) → Sent went locked hosts p p a a
  sent_none {p} {a} hosts = record {
    same = refl;
    makes = makes_as (SendsTo went hosts a.now a.now) (λ acts n. ([], tt, sends_silent went a.now acts (silent_none acts n))) (makes_none locked p);
  }

  pub sent_still : {p q : NodePass H} {a : MutBor L} (hosts : List Address) → q ≡ p → Sent went locked hosts p q a a
  sent_still {p} {q} {a} hosts e = subst (λ (x : NodePass H). Sent went locked hosts p x a a) (sym e) (sent_none hosts)

  -- no Join was sent, so to any hosts none but those
  pub sent_more : {p q : NodePass H} {a b : MutBor L} (hosts : List Address) → Sent went locked [] p q a b → Sent went locked hosts p q a b
  sent_more hosts x = sent_then x (sent_none hosts)

  -- what was sent over the link that is lent, as of the link itself
  pub sent_over : {hosts : List Address} {p q : NodePass H} {a b : MutBor L} {x y : L}
      → a.now ≡ x → y ≡ b.now → Sent went locked hosts p q a b → Makes locked (SendsTo went hosts x y) p q
  sent_over {hosts} {p} {q} {a} {b} {x} {y} e f s =
      subst (λ (z : L). Makes locked (SendsTo went hosts z y) p q) e (subst (λ (z : L). Makes locked (SendsTo went hosts a.now z) p q) (sym f) s.makes)

  -- no Join was sent, so none to a member that was not pinged
  pub sent_pinged_none : {p q : NodePass H} {a b : MutBor L} → Sent went locked [] p q a b → SentAs (SendsToPinged went) locked p q a b
  sent_pinged_none {a = a} {b = b} s = record {
    same = s.same;
    makes = makes_as (SendsToPinged went a.now b.now) (λ acts h. (h.0, part_none h.0 (pinged_in acts) h.1, h.2)) s.makes;
  }

  pub sent_pinged_later : {p q s : NodePass H} {a b c : MutBor L}
      → Sent went locked [] p q a b → SentAs (SendsToPinged went) locked q s b c → SentAs (SendsToPinged went) locked p s a c
  sent_pinged_later {a = a} {b = b} {c = c} x y = record {
    same = y.same ∙ x.same;
    makes = makes_as (SendsToPinged went a.now c.now) (pinged_later went a.now b.now c.now) (makes_then x.makes y.makes);
  }

  -- a member was pinged, and then Joins went to it alone
  pub sent_pinged : {p q s : NodePass H} {a b c : MutBor L} (Came : MayAnswer) (target : Address) (heard : Heard)
      → Does locked (Asks (Pinged Came target)) (Ok heard) p q → Sent went locked [] p q a b → Sent went locked (target ∷ []) q s b c
      → SentAs (SendsToPinged went) locked p s a c
  sent_pinged {a = a} {b = b} {c = c} Came target heard d x y = record {
    same = y.same ∙ x.same;
    makes = makes_as (SendsToPinged went a.now c.now) (pinged_first went Came target heard a.now b.now c.now) (makes_then (makes_both d.makes x.makes) y.makes);
  }

  -- the numbers chose, and Joins went to what they chose
  pub sent_drawn : {p q s : NodePass H} {a b : MutBor L} (hosts : List Address) (draws : Draws) (choice : Choice)
      → Does locked (Chooses hosts draws) (Ok choice) p q → Sent went locked (chosen_hosts choice) q s a b → SentAs (SendsByDraws went hosts (Some draws)) locked p s a b
  sent_drawn {a = a} {b = b} hosts draws choice d s = record {
    same = s.same;
    makes = makes_as (SendsByDraws went hosts (Some draws) a.now b.now) (λ acts t. inr (choice, t)) (makes_then d.makes s.makes);
  }

  -- a part without errands was done, and the link is unchanged
  pub sent_hushed : {A : Type 0} {P : Part H A} {r : Result A ClusterError} {p q : NodePass H} {a : MutBor L} → Hushes P → Does locked P r p q → Sent went locked [] p q a a
  sent_hushed {a = a} h d = record {
    same = refl;
    makes = makes_as (SendsTo went [] a.now a.now) (λ acts k. ([], tt, sends_silent went a.now acts (h.silent _ acts k))) d.makes;
  }

  -- a call of the node, and its errand
  pub sent_act : {hash_of : H → List ℕ → ℕ} {p q : NodePass H} {a b : MutBor L} (hosts : List Address) (event : Event) (told : Reply)
      → IsCalled hash_of locked p q (OfEvent event) (WithReply told) → b.ghost_name ≡ a.ghost_name
      → Runs went (errand_of {H = H} (did event told)) hosts [] a.now b.now → Sent went locked hosts p q a b
  sent_act {a = a} {b = b} hosts event told c same r = record {
    same = same;
    makes = makes_as (SendsTo went hosts a.now b.now)
        (λ acts e. subst (SendsTo went hosts a.now b.now) (sym e) (hosts, part_all hosts, ([], b.now, r, (refl, refl)))) (makes_one c);
  }

  -- a Ping was made and sent, or memory ran out for it
  pub sent_ping : {hash_of : H → List ℕ → ℕ} {p q : NodePass H} {a b : MutBor L} (target : Address) (made : Result Message NodeError) (message : Message)
      → IsCalled hash_of locked p q (OfEvent (call.PingTo target)) (WithReply (reply.PingTo made)) → made ≡ Ok message
      → b.ghost_name ≡ a.ghost_name → GoesOver went target message a.now b.now → Sent went locked [] p q a b
  sent_ping {a = a} {b = b} target made message c e same r =
      sent_act [] (call.PingTo target) (reply.PingTo made) c same
      (subst (λ (x : Result Message NodeError). Runs went (errand_of {H = H} (did (call.PingTo target) (reply.PingTo x))) [] [] a.now b.now) (sym e) (refl, r))

  pub no_ping : {hash_of : H → List ℕ → ℕ} {p q : NodePass H} {a : MutBor L} (target : Address) (made : Result Message NodeError)
      → IsCalled hash_of locked p q (OfEvent (call.PingTo target)) (WithReply (reply.PingTo made)) → is_ok made ≡ false → Sent went locked [] p q a a
  no_ping target (Ok message) c e = cc
  no_ping target (Err n) c e = sent_act [] (call.PingTo target) (reply.PingTo (Err n)) c refl (refl, refl)

  -- and so of a PingReq
  pub sent_ping_req : {hash_of : H → List ℕ → ℕ} {p q : NodePass H} {a b : MutBor L} (helper target : Address) (made : Result Message NodeError) (message : Message)
      → IsCalled hash_of locked p q (OfEvent (call.PingReqTo helper target)) (WithReply (reply.PingReqTo made)) → made ≡ Ok message
      → b.ghost_name ≡ a.ghost_name → GoesOver went helper message a.now b.now → Sent went locked [] p q a b
  sent_ping_req {a = a} {b = b} helper target made message c e same r =
      sent_act [] (call.PingReqTo helper target) (reply.PingReqTo made) c same
      (subst (λ (x : Result Message NodeError). Runs went (errand_of {H = H} (did (call.PingReqTo helper target) (reply.PingReqTo x))) [] [] a.now b.now) (sym e) (refl, r))

  pub no_ping_req : {hash_of : H → List ℕ → ℕ} {p q : NodePass H} {a : MutBor L} (helper target : Address) (made : Result Message NodeError)
      → IsCalled hash_of locked p q (OfEvent (call.PingReqTo helper target)) (WithReply (reply.PingReqTo made)) → is_ok made ≡ false → Sent went locked [] p q a a
  no_ping_req helper target (Ok message) c e = cc
  no_ping_req helper target (Err n) c e = sent_act [] (call.PingReqTo helper target) (reply.PingReqTo (Err n)) c refl (refl, refl)

  -- and of a Join, which goes to this host
  pub sent_join : {hash_of : H → List ℕ → ℕ} {p q : NodePass H} {a b : MutBor L} (host : Address) (made : Result Message NodeError) (message : Message)
      → IsCalled hash_of locked p q (OfEvent call.JoinMessage) (WithReply (reply.JoinMessage made)) → made ≡ Ok message
      → b.ghost_name ≡ a.ghost_name → GoesOver went host message a.now b.now → Sent went locked (host ∷ []) p q a b
  sent_join {a = a} {b = b} host made message c e same r =
      sent_act (host ∷ []) call.JoinMessage (reply.JoinMessage made) c same
      (subst (λ (x : Result Message NodeError). Runs went (errand_of {H = H} (did call.JoinMessage (reply.JoinMessage x))) (host ∷ []) [] a.now b.now) (sym e) (host, refl, r))

  pub no_join : {hash_of : H → List ℕ → ℕ} {p q : NodePass H} {a : MutBor L} (host : Address) (made : Result Message NodeError)
      → IsCalled hash_of locked p q (OfEvent call.JoinMessage) (WithReply (reply.JoinMessage made)) → is_ok made ≡ false → Sent went locked (host ∷ []) p q a a
  no_join host (Ok message) c e = cc
  no_join host (Err n) c e = sent_more (host ∷ []) (sent_act [] call.JoinMessage (reply.JoinMessage (Err n)) c refl (refl, refl))

  -- the addresses that a choice lists are this one
  pub sent_listed : {p q : NodePass H} {a b : MutBor L} (chosen : Option Address) (host : Address)
      → chosen ≡ Some host → Sent went locked (host ∷ []) p q a b → Sent went locked (listed chosen) p q a b
  sent_listed {p} {q} {a} {b} chosen host e x = subst (λ (o : Option Address). Sent went locked (listed o) p q a b) (sym e) x

  pub joins_none : {p : NodePass H} {a : MutBor L} (hosts : List Address) → JoinsSome went locked hosts 0 p p a a
  joins_none hosts = record { first = []; all = refl; sent = sent_none [] }

  pub joins_on : {hosts : List Address} {p q s : NodePass H} {a b c : MutBor L} (i : ℕ) (h : Address) → i < length hosts → h ≡ get_or hosts i h
      → JoinsSome went locked hosts i p q a b → Sent went locked (h ∷ []) q s b c → JoinsSome went locked hosts (i + 1) p s a c
  joins_on {hosts} i h lt e x y = record {
    first = x.first ++ h ∷ [];
    all = append_assoc x.first (h ∷ []) (drop (i + 1) hosts) ∙ ap (λ (ks : List Address). x.first ++ ks) (sym (drop_here hosts i h lt e)) ∙ x.all;
    sent = sent_then x.sent y;
  }

  pub joins_all : {hosts : List Address} {i : ℕ} {p q : NodePass H} {a b : MutBor L} → JoinsSome went locked hosts i p q a b → Sent went locked hosts p q a b
  joins_all {hosts} {i} {p} {q} {a} {b} x =
      subst (λ (ks : List Address). Sent went locked ks p q a b) x.all (sent_then x.sent (sent_none (drop i hosts)))

none_more : (n : ℕ) → n ≡ 0 + n
none_more n = omega arith

one_more : (n : ℕ) → suc n ≡ 1 + n
one_more n = omega arith

module _ {L : Type 0} (went : Went L) where
  counts_one : (e : Errand) (hosts left : List Address) (old mid new : L) (n : ℕ) → Runs went e hosts left old mid → GoesTimes went n mid new → GoesTimes went (one_if_sent e + n) old new
  counts_one stays hosts left old mid new n r h =
      subst (λ (m : ℕ). GoesTimes went m old new) (none_more n) (subst (λ (x : L). GoesTimes went n x new) r.1 h)
  counts_one (goes_to a message) hosts left old mid new n r h =
      subst (λ (m : ℕ). GoesTimes went m old new) (one_more n) (a, message, mid, r.1, h)
  counts_one (joins message) hosts left old mid new n r h =
      subst (λ (m : ℕ). GoesTimes went m old new) (one_more n) (r.0, message, mid, r.2, h)

  counts_hosts : (e : Errand) (hosts left : List Address) (old mid : L) → Runs went e hosts left old mid → one_if_join e + length left ≡ length hosts
  counts_hosts stays hosts left old mid r = omega (arith, ap length r.0)
  counts_hosts (goes_to a message) hosts left old mid r = omega (arith, ap length r.0)
  counts_hosts (joins message) hosts left old mid r = omega (arith, ap length r.1)

  sends_count : {H : Type 0} (hosts : List Address) (old new : L) (acts : List (Act H)) → Sends went hosts old new acts → GoesTimes went (messages_in acts) old new × (joins_in acts ≡ length hosts)
  sends_count hosts old new [] s = (s.1, sym (ap length s.0))
  sends_count hosts old new (act ∷ acts) s =
      let (times, count) = sends_count s.0 s.1 new acts s.3 in
      (counts_one (errand_of act) hosts s.0 old s.1 new (messages_in acts) s.2 times, omega (arith, count, counts_hosts (errand_of act) hosts s.0 old s.1 s.2))

part_fewer : {A : Type 0} (hs hosts : List A) → IsPart hs hosts → length hs ≤ length hosts
part_fewer [] hosts h = omega arith
part_fewer (k ∷ ks) [] h = absurd h
part_fewer (k ∷ ks) (host ∷ hosts) (inl h) = omega (arith, part_fewer ks hosts h.1)
part_fewer (k ∷ ks) (host ∷ hosts) (inr h) = omega (arith, part_fewer (k ∷ ks) hosts h)

pub sendings_count : {H L : Type 0} (went : Went L) → SendingsCount H went
sendings_count went hosts old new acts s =
    let (times, count) = sends_count went s.0 old new acts s.2 in (times, omega (arith, count, part_fewer s.0 hosts s.1))
