-- What the calls of a correction rest on, and how it ends.
use Rattle.std.proofs.Common.{◌≡◌, ℕ, refl, sym, ap, ◌∙◌, subst, inl, inr, Bool, true, false, Option, Some, None, Result, Ok, Err, List, [], ◌∷◌, ◌++◌, append_assoc, append-nil}
use Rattle.std.specs.Prelude.{◌⊎◌, Contains, IfOk, IfErr, IfSome}
use Rattle.std.proofs.lemmas.List.Elements.{Contains-push}
use Rattle.change_core.specs.declared.addresses.Address.{Address}
use Rattle.change_core.specs.declared.changes.Change.{Change}
use Rattle.detector_core.specs.declared.prober.Probe.{Probe}
use Rattle.message_core.specs.declared.messages.Message.{Message}
use Rattle.node_core.specs.declared.errors.NodeError.{NodeError}
use Rattle.node_core.specs.declared.events.Event.TheVariants as call
use Rattle.node_core.specs.declared.events.NodeLost.{NodeLost}
use Rattle.node_core.specs.declared.events.NodeLost.TheVariants as lost
use Rattle.node_core.specs.declared.events.NodeOutcome.{NodeOutcome}
use Rattle.node_core.specs.declared.events.NodeOutcome.TheVariants as outcome
use Rattle.node_core.specs.declared.events.Reply.TheVariants as reply
use Rattle.peer_core.specs.declared.errors.ClusterError.{ClusterError}
use Rattle.peer_core.specs.declared.errors.LinkError.{LinkError}
use Rattle.peer_core.specs.declared.hearing.Heard.{Heard}
use Rattle.peer_core.specs.declared.hearing.Heard.TheVariants as heard
use Rattle.peer_core.specs.declared.rounds.Round.{Round}
use Rattle.peer_core.specs.declared.rounds.Round.TheVariants.{Idle, Reached, Suspected}
use Rattle.peer_core.specs.Acts.{Act, OfActs, did}
use Rattle.peer_core.specs.Asking.{Applied, IsSent, Pinged}
use Rattle.peer_core.specs.CorrectionProvenance.{CorrectionRestsOn, CorrectionsRest, IsWhyUncorrected, JoinedBy, RestsBehind, WasCorrected, probed_by, target_of}
use Rattle.peer_core.specs.Correcting.{CorrectsAfter, GoesAndCorrects, HearsAndCorrects, IsCorrectingRound}
use Rattle.peer_core.specs.Joining.{HearsHost}
use Rattle.peer_core.specs.Links.{MayAnswer, IsJoined}
use Rattle.peer_core.specs.Meeting.{Corrects, CorrectsIf, is_misnamed}
use Rattle.peer_core.specs.Parts.{Part, ended, Asks, Calls, Gives, Next, Tries, Until}
use Rattle.peer_core.specs.Provenance.{applied, EachRests}
use Rattle.peer_core.specs.Rounds.{AsksHelper, AsksHelpers, Begins, Expires, FollowsLoss, Goes, HearsTarget, IsRound, LosesOnce, Takes, Unless, end_by, way_of_ending}
use Rattle.peer_core.proofs.Each.{call_rests, next_rests, none_rests, one_rests}
use Rattle.peer_core.proofs.Joined.{HostDid, host_did, host_refused, unasked_later}

-- how a probe of this member may end

abbrev EndsAbout : Address → Round → Type 0
EndsAbout a end = target_of end ≡ Some a

abbrev MayEndAbout : Address → Option Round → Type 0
MayEndAbout a end = IfSome end (EndsAbout a)

words_about : (a : Address) (o : NodeOutcome) → MayEndAbout a (end_by a o)
words_about a outcome.Waiting = tt
words_about a outcome.Reached = refl
words_about a (outcome.Suspect change) = refl
words_about a outcome.Inconclusive = refl

ending_about : (a : Address) (x : Option Round) (end : Round) → way_of_ending x ≡ ended end → MayEndAbout a x → EndsAbout a end
ending_about a (Some round) end e about = let same : end ≡ round = cc in ap target_of same ∙ about
ending_about a None end e about = cc

module _ {H : Type 0} where
  gives_so : {A : Type 0} (Q : A → Type 0) (a : A) → Q a → (r : Result A ClusterError) (acts : List (Act H)) → Gives a r acts → IfOk r Q
  gives_so {A} Q a q r acts h = subst (λ (x : Result A ClusterError). IfOk x Q) (sym h.1) q

  next_so : {A B : Type 0} (Q : B → Type 0) (First : Part H A) (Rest : A → Part H B) → ((a : A) (r : Result B ClusterError) (acts : List (Act H)) → Rest a r acts → IfOk r Q)
      → (r : Result B ClusterError) (acts : List (Act H)) → Next First Rest r acts → IfOk r Q
  next_so Q First Rest f (Ok b) acts (inl h) = absurd h
  next_so Q First Rest f (Err e) acts (inl h) = tt
  next_so Q First Rest f r acts (inr t) = f t.0 r t.1.1 t.1.4

module _ {H : Type 0} (Came : MayAnswer) (now : ℕ) (probe : Probe) where
  unless_about : (end : Option Round) (Rest : Part H (Option Round)) → MayEndAbout probe.target end
      → ((r : Result (Option Round) ClusterError) (acts : List (Act H)) → Rest r acts → IfOk r (MayEndAbout probe.target))
      → (r : Result (Option Round) ClusterError) (acts : List (Act H)) → Unless end Rest r acts → IfOk r (MayEndAbout probe.target)
  unless_about (Some round) Rest about f r acts h = gives_so (MayEndAbout probe.target) (Some round) about r acts h
  unless_about None Rest about f r acts h = f r acts h

  helpers_about : (helpers : List Address) (r : Result (Option Round) ClusterError) (acts : List (Act H)) → AsksHelpers Came now probe helpers r acts → IfOk r (MayEndAbout probe.target)
  helpers_about [] r acts h = gives_so (MayEndAbout probe.target) None tt r acts h
  helpers_about (a ∷ more) r acts h =
      next_so (MayEndAbout probe.target) (AsksHelper Came now probe a) (λ o. Unless (end_by probe.target o) (AsksHelpers Came now probe more))
      (λ o. unless_about (end_by probe.target o) (AsksHelpers Came now probe more) (words_about probe.target o) (helpers_about more)) r acts h

  loss_about : (o : NodeLost) (r : Result (Option Round) ClusterError) (acts : List (Act H)) → FollowsLoss Came now probe o r acts → IfOk r (MayEndAbout probe.target)
  loss_about (lost.Ask helpers) r acts h = helpers_about helpers r acts h
  loss_about (lost.Suspect change) r acts h = gives_so (MayEndAbout probe.target) (Some (Suspected probe.target)) refl r acts h

  given_up_about : (u : Unit {0}) (r : Result Round ClusterError) (acts : List (Act H)) → Until (λ u. LosesOnce Came now probe) way_of_ending u r acts → IfOk r (EndsAbout probe.target)
  given_up_about u r acts (Until.ends {acts = xs} x a h e) =
      ending_about probe.target x a e
      (next_so (MayEndAbout probe.target) (Tries (call.Lost probe.number now) reply.Lost) (FollowsLoss Came now probe) loss_about (Ok x) xs h)
  given_up_about u r acts (Until.stops e h) = tt
  given_up_about u r acts (Until.goes_on {r = q} {rest = ys} x t h e more) = given_up_about t q ys more

  -- a probe that ends, ends about its target
  target_about : (what : Heard) (r : Result Round ClusterError) (acts : List (Act H)) → HearsTarget Came now probe what r acts → IfOk r (EndsAbout probe.target)
  target_about (heard.Answer ack) r acts h =
      next_so (EndsAbout probe.target) (Takes now ack) (λ u. Next (Tries (call.Acked probe.number) reply.Acked) (λ v. Gives (Reached probe.target)))
      (λ u. next_so (EndsAbout probe.target) (Tries (call.Acked probe.number) reply.Acked) (λ v. Gives (Reached probe.target))
      (λ v. gives_so (EndsAbout probe.target) (Reached probe.target) refl)) r acts h
  target_about heard.Other r acts h = given_up_about tt r acts h
  target_about heard.OutOfMemory r acts h = subst (λ (x : Result Round ClusterError). IfOk x (EndsAbout probe.target)) (sym h.1) tt

-- the calls of a correction of this member

module _ {H : Type 0} (Came : MayAnswer) (now : ℕ) (a : Address) where
  abbrev On : List (Act H) → Act H → Type 0
  On before act = CorrectionRestsOn Came now a before act

  -- what was heard is a Joined of the member
  abbrev Told : Heard → OfActs H
  Told (heard.Answer m) before = JoinedBy Came a m before
  Told heard.Other before = Unit {0}
  Told heard.OutOfMemory before = Unit {0}

  sent_told : (made : Result Message NodeError) (what : Heard) (before acts : List (Act H)) → acts ≡ did call.JoinMessage (reply.JoinMessage made) ∷ []
      → IsSent Came a IsJoined made what → Told what (before ++ acts)
  sent_told (Ok q) (heard.Answer m) before acts is sent = (
    q,
    subst (λ (xs : List (Act H)). Contains (before ++ xs) (applied q)) (sym is) (Contains-push before (applied q)),
    subst (λ (x : Result Message LinkError). Came a q x) sent.2.0 sent.1,
    sent.2.1,
  )
  sent_told (Err n) (heard.Answer m) before acts is sent = absurd (let no : heard.Answer m ≡ heard.OutOfMemory = sent.1 in cc)
  sent_told made heard.Other before acts is sent = tt
  sent_told made heard.OutOfMemory before acts is sent = tt

  hears_rest : (what : Heard) (before : List (Act H)) → Told what before → (r : Result Bool ClusterError) (acts : List (Act H)) → HearsHost now what r acts → EachRests On before acts
  hears_rest (heard.Answer m) before told r acts h =
      next_rests On (Takes now m) (λ u. Gives true) before acts r h
      (λ x xs t. next_rests On (Calls (call.Receive m now) reply.Receive) (λ received. Gives tt) before xs x t
      (call_rests On (call.Receive m now) reply.Receive before (λ received. (refl, told))) (λ received us vs p q. none_rests On (before ++ us) vs q.0))
      (λ u xs ys p q. none_rests On (before ++ xs) ys q.0)
  hears_rest heard.Other before told r acts h = none_rests On before acts h.0
  hears_rest heard.OutOfMemory before told r acts h = none_rests On before acts h.0

  applies_rest : (before : List (Act H)) (r : Result Heard ClusterError) (acts : List (Act H)) → Asks (Applied Came a) r acts → EachRests On before acts
  applies_rest before (Ok what) acts p = one_rests On before acts (did call.JoinMessage (reply.JoinMessage p.0)) p.1 tt
  applies_rest before (Err e) acts p = none_rests On before acts p.0

  corrects_if_rest : (is : Bool) (before : List (Act H)) (r : Result Bool ClusterError) (acts : List (Act H)) → CorrectsIf Came now is a r acts → EachRests On before acts
  corrects_if_rest true before r acts h =
      next_rests On (Asks (Applied Came a)) (HearsHost now) before acts r h (applies_rest before)
      (λ what xs ys p q. hears_rest what (before ++ xs) (sent_told p.0 what before xs p.1 p.2) r ys q)
  corrects_if_rest false before r acts h = none_rests On before acts h.0

  corrects_rest : (what : Heard) (before : List (Act H)) (r : Result Bool ClusterError) (acts : List (Act H)) → Corrects Came now a what r acts → EachRests On before acts
  corrects_rest what before r acts h =
      next_rests On (Calls call.Own reply.Own) (λ own. CorrectsIf Came now (is_misnamed own what) a) before acts r h
      (call_rests On call.Own reply.Own before (λ own. tt)) (λ own xs ys p q. corrects_if_rest (is_misnamed own what) (before ++ xs) r ys q)

  -- how it ends

  abbrev GotJoin : OfActs H
  GotJoin next = (next ≡ []) ⊎ (HostDid Came now a true next ⊎ HostDid Came now a false next)

  joined_or_not : (joined : Bool) (next : List (Act H)) → HostDid Came now a joined next → GotJoin next
  joined_or_not true next d = inr (inl d)
  joined_or_not false next d = inr (inr d)

  sent_if : (is joined : Bool) (next : List (Act H)) → CorrectsIf Came now is a (Ok joined) next → GotJoin next
  sent_if true joined next h = joined_or_not joined next (host_did Came now a joined next h)
  sent_if false joined next h = inl h.0

  was_corrected : (own : Change) (next acts : List (Act H)) → acts ≡ did call.Own (reply.Own own) ∷ next → GotJoin next → WasCorrected Came now a acts
  was_corrected own next acts is (inl none) = (own, next, is, inl none)
  was_corrected own next acts is (inr (inl d)) = (own, next, is, inr (true, d.0))
  was_corrected own next acts is (inr (inr d)) = (own, next, is, inr (false, d.0))

  sent_so : (what : Heard) (joined : Bool) (acts : List (Act H)) → Corrects Came now a what (Ok joined) acts → WasCorrected Came now a acts
  sent_so what joined acts (inl h) = absurd h
  sent_so what joined acts (inr t) =
      was_corrected t.0 t.1.1 acts (t.1.2 ∙ ap (λ (xs : List (Act H)). xs ++ t.1.1) t.1.3) (sent_if (is_misnamed t.0 what) joined t.1.1 t.1.4)

  why_if : (is : Bool) (e : ClusterError) (acts : List (Act H)) → CorrectsIf Came now is a (Err e) acts → IsWhyUncorrected Came a e acts
  why_if true e acts h = host_refused Came now a e acts h
  why_if false e acts h = absurd (let no : Err e ≡ Ok false = h.1 in cc)

  why_not : (what : Heard) (e : ClusterError) (acts : List (Act H)) → Corrects Came now a what (Err e) acts → IsWhyUncorrected Came a e acts
  why_not what e acts (inl h) = inl h.1
  why_not what e acts (inr t) =
      subst (λ (xs : List (Act H)). IsWhyUncorrected Came a e xs) (sym t.1.2) (unasked_later Came now (a ∷ []) e t.1.0 t.1.1 (why_if (is_misnamed t.0 what) e t.1.1 t.1.4))

  -- A correction after a round that ended so.
  record Corrected (round : Round) (r : Result Round ClusterError) (acts : List (Act H)) : Type 0 where
    rests : (before : List (Act H)) → EachRests On before acts
    same : IfOk r (λ end. end ≡ round)
    sent : IfOk r (λ end. WasCorrected Came now a acts)
    failed : IfErr r (λ e. IsWhyUncorrected Came a e acts)

  corrected : (what : Heard) (round : Round) (r : Result Round ClusterError) (acts : List (Act H)) → CorrectsAfter Came now a what round r acts → Corrected round r acts
  corrected what round r acts h = record {
    rests = λ before.
        next_rests On (Corrects Came now a what) (λ joined. Gives round) before acts r h (corrects_rest what before)
        (λ joined xs ys p q. none_rests On (before ++ xs) ys q.0);
    same = next_so (λ end. end ≡ round) (Corrects Came now a what) (λ joined. Gives round) (λ joined. gives_so (λ end. end ≡ round) round refl) r acts h;
    sent = by_result r h;
    failed = by_error r h;
  }
    where
      by_result : (x : Result Round ClusterError) → CorrectsAfter Came now a what round x acts → IfOk x (λ end. WasCorrected Came now a acts)
      by_result (Ok end) (inl p) = absurd p
      by_result (Ok end) (inr t) =
          subst (λ (xs : List (Act H)). WasCorrected Came now a xs)
          (sym (t.1.2 ∙ ap (λ (xs : List (Act H)). t.1.0 ++ xs) t.1.4.0 ∙ append-nil t.1.0)) (sent_so what t.0 t.1.0 t.1.3)
      by_result (Err e) p = tt

      by_error : (x : Result Round ClusterError) → CorrectsAfter Came now a what round x acts → IfErr x (λ e. IsWhyUncorrected Came a e acts)
      by_error (Ok end) p = tt
      by_error (Err e) (inl p) = why_not what e acts p
      by_error (Err e) (inr t) = absurd (let no : Err e ≡ Ok round = t.1.4.1 in cc)

-- a round ended as another did, if it succeeded
abbrev EndedAs : Result Round ClusterError → Result Round ClusterError → Type 0
EndedAs round r = IfOk r (λ end. round ≡ Ok end)

ended_as : (round : Round) (r : Result Round ClusterError) → IfOk r (λ end. end ≡ round) → EndedAs (Ok round) r
ended_as round (Ok end) same = ap Ok (sym same)
ended_as round (Err e) same = tt

-- rounds with a correction behind

module _ {H : Type 0} (Came : MayAnswer) (now : ℕ) where
  -- A part of a round, and behind it the correction of its target, whatever came before.
  record Behind (P : Part H Round) (r : Result Round ClusterError) (acts : List (Act H)) : Type 0 where
    round : Result Round ClusterError
    first : List (Act H)
    rest : List (Act H)
    all : acts ≡ first ++ rest
    made : P round first
    rests : (prefix : List (Act H)) → RestsBehind Came now (probed_by round) (prefix ++ first) rest
    same : IfOk r (λ end. round ≡ Ok end)
    sent : IfOk r (λ end. IfSome (target_of end) (λ a. WasCorrected Came now a rest))
    failed : IfErr r (λ e. (round ≡ Err e) ⊎ ((a : Address) × (probed_by round ≡ Some a) × IsWhyUncorrected Came a e rest))

  -- the round failed
  behind_error : (P : Part H Round) (e : ClusterError) (acts : List (Act H)) → P (Err e) acts → Behind P (Err e) acts
  behind_error P e acts h = record {
    round = Err e;
    first = acts;
    rest = [];
    all = sym (append-nil acts);
    made = h;
    rests = λ prefix. refl;
    same = tt;
    sent = tt;
    failed = inl refl;
  }

  -- the round probed no member
  behind_idle : (acts : List (Act H)) → Gives Idle (Ok Idle) acts → Behind (Gives Idle) (Ok Idle) acts
  behind_idle acts h = record {
    round = Ok Idle;
    first = acts;
    rest = [];
    all = sym (append-nil acts);
    made = h;
    rests = λ prefix. refl;
    same = refl;
    sent = tt;
    failed = tt;
  }

  -- what comes before is of the round
  behind_next : {A : Type 0} (First : Part H A) (Rest Round' : A → Part H Round) (r : Result Round ClusterError) (acts : List (Act H)) → Next First Rest r acts
      → ((a : A) (ys : List (Act H)) → Rest a r ys → Behind (Round' a) r ys) → Behind (Next First Round') r acts
  behind_next First Rest Round' (Ok b) acts (inl h) f = absurd h
  behind_next First Rest Round' (Err e) acts (inl h) f = behind_error (Next First Round') e acts (inl h)
  behind_next First Rest Round' r acts (inr t) f =
      let b : Behind (Round' t.0) r t.1.1 = f t.0 t.1.1 t.1.4 in record {
        round = b.round;
        first = t.1.0 ++ b.first;
        rest = b.rest;
        all = t.1.2 ∙ ap (λ (xs : List (Act H)). t.1.0 ++ xs) b.all ∙ sym (append_assoc t.1.0 b.first b.rest);
        made = inr (t.0, (t.1.0, b.first, refl, t.1.3, b.made));
        rests = λ prefix. subst (λ (xs : List (Act H)). RestsBehind Came now (probed_by b.round) xs b.rest) (append_assoc prefix t.1.0 b.first) (b.rests (prefix ++ t.1.0));
        same = b.same;
        sent = b.sent;
        failed = b.failed;
      }

  sent_about : (a : Address) (round : Round) (r : Result Round ClusterError) (rest : List (Act H)) → target_of round ≡ Some a → IfOk r (λ end. end ≡ round)
      → IfOk r (λ end. WasCorrected Came now a rest) → IfOk r (λ end. IfSome (target_of end) (λ b. WasCorrected Came now b rest))
  sent_about a round (Ok end) rest about same sent =
      subst (λ (o : Option Address). IfSome o (λ b. WasCorrected Came now b rest)) (sym (ap target_of same ∙ about)) sent
  sent_about a round (Err e) rest about same sent = tt

  failed_about : (a : Address) (round : Round) (r : Result Round ClusterError) (rest : List (Act H)) → target_of round ≡ Some a
      → IfErr r (λ e. IsWhyUncorrected Came a e rest)
      → IfErr r (λ e. (Ok round ≡ Err e) ⊎ ((b : Address) × (target_of round ≡ Some b) × IsWhyUncorrected Came b e rest))
  failed_about a round (Ok end) rest about why = tt
  failed_about a round (Err e) rest about why = inr (a, about, why)

  corrected_behind : (probe : Probe) (what : Heard) (r : Result Round ClusterError) (acts : List (Act H)) → HearsAndCorrects Came now probe what r acts → Behind (HearsTarget Came now probe what) r acts
  corrected_behind probe what (Ok end) acts (inl h) = absurd h
  corrected_behind probe what (Err e) acts (inl h) = behind_error (HearsTarget Came now probe what) e acts h
  corrected_behind probe what r acts (inr t) =
      let a : Address = probe.target in
      let about : target_of t.0 ≡ Some a = target_about Came now probe what (Ok t.0) t.1.0 t.1.3 in
      let c : Corrected Came now a t.0 r t.1.1 = corrected Came now a what t.0 r t.1.1 t.1.4 in record {
        round = Ok t.0;
        first = t.1.0;
        rest = t.1.1;
        all = t.1.2;
        made = t.1.3;
        rests = λ prefix. subst (λ (o : Option Address). RestsBehind Came now o (prefix ++ t.1.0) t.1.1) (sym about) (c.rests (prefix ++ t.1.0));
        same = ended_as t.0 r c.same;
        sent = sent_about a t.0 r t.1.1 about c.same c.sent;
        failed = failed_about a t.0 r t.1.1 about c.failed;
      }

  goes_behind : (probe : Option Probe) (r : Result Round ClusterError) (acts : List (Act H)) → GoesAndCorrects Came now probe r acts → Behind (Goes Came now probe) r acts
  goes_behind None (Ok end) acts h =
      let is : end ≡ Idle = (let same : Ok end ≡ Ok Idle = h.1 in cc) in
      subst (λ (x : Round). Behind (Gives Idle) (Ok x) acts) (sym is) (behind_idle acts (h.0, refl))
  goes_behind None (Err e) acts h = absurd (let no : Err e ≡ Ok Idle = h.1 in cc)
  goes_behind (Some probe) r acts h =
      behind_next (Asks (Pinged Came probe.target)) (HearsAndCorrects Came now probe) (HearsTarget Came now probe) r acts h (λ what ys k. corrected_behind probe what r ys k)

  round_behind : (r : Result Round ClusterError) (acts : List (Act H)) → IsCorrectingRound Came now r acts → Behind (IsRound Came now) r acts
  round_behind r acts h =
      behind_next (Expires now) (λ u. Next (Begins Came now) (GoesAndCorrects Came now)) (λ u. Next (Begins Came now) (Goes Came now)) r acts h
      (λ u ys k. behind_next (Begins Came now) (GoesAndCorrects Came now) (Goes Came now) r ys k (λ probe zs l. goes_behind probe r zs l))

pub corrections_rest : {H : Type 0} (Came : MayAnswer) → CorrectionsRest H Came
corrections_rest Came now r acts h =
    let b : Behind Came now (IsRound Came now) r acts = round_behind Came now r acts h in record {
      round = b.round;
      first = b.first;
      rest = b.rest;
      all = b.all;
      made = b.made;
      rests = b.rests [];
      same = b.same;
      sent = b.sent;
      failed = b.failed;
    }
