-- What the calls of healing rest on.
use Rattle.std.proofs.Common.{◌≡◌, ℕ, zero, suc, refl, sym, ap, ◌∙◌, subst, arith, inl, inr, if◌then◌else◌, Bool, true, false, Option, Some, None, Result, Ok, Err, List, [], ◌∷◌, ◌++◌, append_assoc, append-nil}
use Rattle.std.specs.Prelude.{◌⊎◌, ◌==◌, ◌%◌, Contains, count_by}
use Rattle.std.proofs.lemmas.List.Elements.{Contains-append_right, Contains-push}
use Rattle.change_core.specs.declared.addresses.Address.{Address}
use Rattle.change_core.specs.declared.changes.Change.{Change}
use Rattle.message_core.specs.declared.messages.Message.{Message}
use Rattle.node_core.specs.declared.errors.NodeError.{NodeError}
use Rattle.node_core.specs.declared.events.Event.TheVariants as call
use Rattle.node_core.specs.declared.events.Reply.TheVariants as reply
use Rattle.peer_core.specs.declared.errors.ClusterError.{ClusterError}
use Rattle.peer_core.specs.declared.errors.LinkError.{LinkError}
use Rattle.peer_core.specs.declared.healing.Choice.{Choice}
use Rattle.peer_core.specs.declared.healing.Draws.{Draws}
use Rattle.peer_core.specs.declared.hearing.Heard.{Heard}
use Rattle.peer_core.specs.declared.hearing.Heard.TheVariants as heard
use Rattle.peer_core.specs.Acts.{Act, OfActs, did, Just}
use Rattle.peer_core.specs.Asking.{Applied, IsSent, Pinged}
use Rattle.peer_core.specs.Healing.{CarriesOut, Chooses, IsHealing, JoinsChosen, MeetsChosen, can_meet, choice_of, chosen_member, met_at}
use Rattle.peer_core.specs.HealingProvenance.{AllHealRest, CameBack, HealRestsOn, HealsRest, WasListed}
use Rattle.peer_core.specs.Joining.{HearsHost, JoinsHost}
use Rattle.peer_core.specs.Links.{MayAnswer, IsAckOf, IsJoined}
use Rattle.peer_core.specs.Meeting.{Corrects, CorrectsIf, Meets, TakesAndCorrects, is_misnamed}
use Rattle.peer_core.specs.Parts.{Asks, Calls, Gives, Next, Tries}
use Rattle.peer_core.specs.Provenance.{applied, pinged}
use Rattle.peer_core.specs.Rounds.{Takes}
use Rattle.peer_core.proofs.Each.{call_rests, next_rests, none_rests, one_rests, try_rests}

-- whom a number chooses is one of those that are held
abbrev Held : List Change → Address → Type 0
Held held a = (c : Change) × Contains held c × (c.address ≡ a)

either_way : (b : Bool) (x y : Option Address) (a : Address) → (if b then x else y) ≡ Some a → (x ≡ Some a) ⊎ (y ≡ Some a)
either_way true x y a e = inl e
either_way false x y a e = inr e

held_first : (c : Change) (cs : List Change) (a : Address) → Some c.address ≡ Some a → Held (c ∷ cs) a
held_first c cs a e = (c, (0, omega arith, refl), (let same : Some c.address ≡ Some a = e in cc))

held_later : (c : Change) (cs : List Change) (a : Address) → Held cs a → Held (c ∷ cs) a
held_later c cs a h = (h.0, Contains-append_right (c ∷ []) cs h.0 h.1, h.2)

either_held : {X Y : Type 0} (xs : List Change) (a : Address) → X ⊎ Y → (X → Held xs a) → (Y → Held xs a) → Held xs a
either_held xs a (inl x) f g = f x
either_held xs a (inr y) f g = g y

met_held : (own : Address) (held : List Change) (n : ℕ) (a : Address) → met_at own held n ≡ Some a → Held held a
met_held own [] n a e = absurd (let no : None ≡ Some a = e in cc)
met_held own (c ∷ cs) zero a e =
    either_held (c ∷ cs) a (either_way (can_meet own c) (Some c.address) (met_at own cs zero) a e) (held_first c cs a) (λ h. held_later c cs a (met_held own cs zero a h))
met_held own (c ∷ cs) (suc n) a e =
    either_held (c ∷ cs) a (either_way (can_meet own c) (met_at own cs n) (met_at own cs (suc n)) a e) (λ h. held_later c cs a (met_held own cs n a h))
    (λ h. held_later c cs a (met_held own cs (suc n) a h))

chosen_held : (own : Address) (held : List Change) (number : ℕ) (a : Address) → chosen_member own held number ≡ Some a → Held held a
chosen_held own held number a e =
    either_held held a (either_way (count_by (can_meet own) held == 0) None (met_at own held (number % count_by (can_meet own) held)) a e)
    (λ h. absurd (let no : None ≡ Some a = h in cc)) (met_held own held (number % count_by (can_meet own) held) a)

module _ {H : Type 0} (Came : MayAnswer) (now : ℕ) where
  -- what was heard came over the link
  abbrev Told : Heard → OfActs H
  Told (heard.Answer m) before = CameBack Came m before
  Told heard.Other before = Unit {0}
  Told heard.OutOfMemory before = Unit {0}

  sent_told : (a : Address) (Wanted : Message → Type 0) (made : Result Message NodeError) (what : Heard) (before : List (Act H)) → IsSent Came a Wanted made what
      → ((q : Message) → made ≡ Ok q → Contains before (pinged a q) ⊎ Contains before (applied q)) → Told what before
  sent_told a Wanted (Ok q) (heard.Answer m) before sent f = (a, q, f q refl, subst (λ (x : Result Message LinkError). Came a q x) sent.2.0 sent.1)
  sent_told a Wanted (Err n) (heard.Answer m) before sent f = absurd (let no : heard.Answer m ≡ heard.OutOfMemory = sent.1 in cc)
  sent_told a Wanted made heard.Other before sent f = tt
  sent_told a Wanted made heard.OutOfMemory before sent f = tt

  asked_one : (before acts : List (Act H)) (act made : Act H) → Just act acts → act ≡ made → Contains (before ++ acts) made
  asked_one before acts act made e is =
      subst (λ (xs : List (Act H)). Contains (before ++ xs) made) (sym (e ∙ ap (λ (x : Act H). x ∷ []) is)) (Contains-push before made)

  pinged_told : (a : Address) (what : Heard) (before acts : List (Act H)) → Pinged Came a what acts → Told what (before ++ acts)
  pinged_told a what before acts p =
      sent_told a (IsAckOf a) p.0 what (before ++ acts) p.2
      (λ q e. inl (asked_one before acts (did (call.PingTo a) (reply.PingTo p.0)) (pinged a q) p.1 (ap (λ (x : Result Message NodeError). did (call.PingTo a) (reply.PingTo x)) e)))

  applied_told : (a : Address) (what : Heard) (before acts : List (Act H)) → Applied Came a what acts → Told what (before ++ acts)
  applied_told a what before acts p =
      sent_told a IsJoined p.0 what (before ++ acts) p.2
      (λ q e. inr (asked_one before acts (did call.JoinMessage (reply.JoinMessage p.0)) (applied q) p.1 (ap (λ (x : Result Message NodeError). did call.JoinMessage (reply.JoinMessage x)) e)))

  takes_rest : (m : Message) (before : List (Act H)) → CameBack Came m before → (r : Result (Unit {0}) ClusterError) (acts : List (Act H)) → Takes now m r acts → AllHealRest Came now before acts
  takes_rest m before came r acts h =
      next_rests (HealRestsOn Came now) (Calls (call.Receive m now) reply.Receive) (λ received. Gives tt) before acts r h
      (call_rests (HealRestsOn Came now) (call.Receive m now) reply.Receive before (λ a. (refl, came))) (λ a xs ys p q. none_rests (HealRestsOn Came now) (before ++ xs) ys q.0)

  hears_rest : (what : Heard) (before : List (Act H)) → Told what before → (r : Result Bool ClusterError) (acts : List (Act H)) → HearsHost now what r acts → AllHealRest Came now before acts
  hears_rest (heard.Answer m) before told r acts h =
      next_rests (HealRestsOn Came now) (Takes now m) (λ u. Gives true) before acts r h (takes_rest m before told) (λ u xs ys p q. none_rests (HealRestsOn Came now) (before ++ xs) ys q.0)
  hears_rest heard.Other before told r acts h = none_rests (HealRestsOn Came now) before acts h.0
  hears_rest heard.OutOfMemory before told r acts h = none_rests (HealRestsOn Came now) before acts h.0

  applies_rest : (a : Address) (before : List (Act H)) (r : Result Heard ClusterError) (acts : List (Act H)) → Asks (Applied Came a) r acts → AllHealRest Came now before acts
  applies_rest a before (Ok what) acts p = one_rests (HealRestsOn Came now) before acts (did call.JoinMessage (reply.JoinMessage p.0)) p.1 tt
  applies_rest a before (Err e) acts p = none_rests (HealRestsOn Came now) before acts p.0

  pings_rest : (a : Address) (before : List (Act H)) → WasListed a before → (r : Result Heard ClusterError) (acts : List (Act H)) → Asks (Pinged Came a) r acts → AllHealRest Came now before acts
  pings_rest a before listed (Ok what) acts p = one_rests (HealRestsOn Came now) before acts (did (call.PingTo a) (reply.PingTo p.0)) p.1 listed
  pings_rest a before listed (Err e) acts p = none_rests (HealRestsOn Came now) before acts p.0

  joins_rest : (a : Address) (before : List (Act H)) (r : Result Bool ClusterError) (acts : List (Act H)) → JoinsHost Came now a r acts → AllHealRest Came now before acts
  joins_rest a before r acts h =
      next_rests (HealRestsOn Came now) (Asks (Applied Came a)) (HearsHost now) before acts r h (applies_rest a before)
      (λ what xs ys p q. hears_rest what (before ++ xs) (applied_told a what before xs p) r ys q)

  corrects_if_rest : (is : Bool) (a : Address) (before : List (Act H)) (r : Result Bool ClusterError) (acts : List (Act H)) → CorrectsIf Came now is a r acts → AllHealRest Came now before acts
  corrects_if_rest true a before r acts h = joins_rest a before r acts h
  corrects_if_rest false a before r acts h = none_rests (HealRestsOn Came now) before acts h.0

  corrects_rest : (a : Address) (what : Heard) (before : List (Act H)) (r : Result Bool ClusterError) (acts : List (Act H)) → Corrects Came now a what r acts → AllHealRest Came now before acts
  corrects_rest a what before r acts h =
      next_rests (HealRestsOn Came now) (Calls call.Own reply.Own) (λ own. CorrectsIf Came now (is_misnamed own what) a) before acts r h
      (call_rests (HealRestsOn Came now) call.Own reply.Own before (λ own. tt)) (λ own xs ys p q. corrects_if_rest (is_misnamed own what) a (before ++ xs) r ys q)

  meets_rest : (a : Address) (before : List (Act H)) → WasListed a before → (r : Result Bool ClusterError) (acts : List (Act H)) → Meets Came now a r acts → AllHealRest Came now before acts
  meets_rest a before listed r acts h =
      next_rests (HealRestsOn Came now) (Asks (Pinged Came a)) (TakesAndCorrects Came now a) before acts r h (pings_rest a before listed)
      (λ what xs ys p q. next_rests (HealRestsOn Came now) (HearsHost now what) (λ met. Corrects Came now a what) (before ++ xs) ys r q
      (hears_rest what (before ++ xs) (pinged_told a what before xs p)) (λ met us vs u v. corrects_rest a what ((before ++ xs) ++ us) r vs v))

  meets_chosen_rest : (member : Option Address) (before : List (Act H)) → ((a : Address) → member ≡ Some a → WasListed a before)
      → (r : Result Bool ClusterError) (acts : List (Act H)) → MeetsChosen Came now member r acts → AllHealRest Came now before acts
  meets_chosen_rest None before listed r acts h = none_rests (HealRestsOn Came now) before acts h.0
  meets_chosen_rest (Some a) before listed r acts h = meets_rest a before (listed a refl) r acts h

  joins_chosen_rest : (host : Option Address) (before : List (Act H)) (r : Result Bool ClusterError) (acts : List (Act H)) → JoinsChosen Came now host r acts → AllHealRest Came now before acts
  joins_chosen_rest None before r acts h = none_rests (HealRestsOn Came now) before acts h.0
  joins_chosen_rest (Some host) before r acts h = joins_rest host before r acts h

  carries_rest : (choice : Choice) (before : List (Act H)) → ((a : Address) → choice.member ≡ Some a → WasListed a before)
      → (r : Result Bool ClusterError) (acts : List (Act H)) → CarriesOut Came now choice r acts → AllHealRest Came now before acts
  carries_rest choice before listed r acts h =
      next_rests (HealRestsOn Came now) (MeetsChosen Came now choice.member) (λ met. JoinsChosen Came now choice.host) before acts r h
      (meets_chosen_rest choice.member before listed) (λ met xs ys p q. joins_chosen_rest choice.host (before ++ xs) r ys q)

  chooses_rest : (hosts : List Address) (draws : Draws) (before : List (Act H)) (r : Result Choice ClusterError) (acts : List (Act H)) → Chooses hosts draws r acts → AllHealRest Came now before acts
  chooses_rest hosts draws before r acts h =
      next_rests (HealRestsOn Came now) (Calls call.Own reply.Own) (λ own. Next (Tries call.Members reply.Members) (λ held. Gives (choice_of own.address held hosts draws))) before acts r h
      (call_rests (HealRestsOn Came now) call.Own reply.Own before (λ own. tt))
      (λ own xs ys p q. next_rests (HealRestsOn Came now) (Tries call.Members reply.Members) (λ held. Gives (choice_of own.address held hosts draws)) (before ++ xs) ys r q
      (try_rests (HealRestsOn Came now) call.Members reply.Members (before ++ xs) (λ held. tt)) (λ held us vs u v. none_rests (HealRestsOn Came now) ((before ++ xs) ++ us) vs v.0))

  chosen_listed : (hosts : List Address) (draws : Draws) (choice : Choice) (before acts : List (Act H)) → Chooses hosts draws (Ok choice) acts
      → (a : Address) → choice.member ≡ Some a → WasListed a (before ++ acts)
  chosen_listed hosts draws choice before acts (inl h) a e = absurd h
  chosen_listed hosts draws choice before acts (inr t) a e = go t.1.4
    where
      go : Next (Tries call.Members reply.Members) (λ held. Gives (choice_of t.0.address held hosts draws)) (Ok choice) t.1.1 → WasListed a (before ++ acts)
      go (inl h) = absurd h
      go (inr u) =
          let is : choice ≡ choice_of t.0.address u.0 hosts draws = (let same : Ok choice ≡ Ok (choice_of t.0.address u.0 hosts draws) = u.1.4.1 in cc) in
          let met : Held u.0 a = chosen_held t.0.address u.0 draws.member a (sym (ap (λ (x : Choice). x.member) is) ∙ e) in
          let asked : Act H = did call.Members (reply.Members (Ok u.0)) in
          let all : before ++ acts ≡ (before ++ t.1.0) ++ (asked ∷ []) =
          ap (λ (xs : List (Act H)). before ++ xs) (t.1.2 ∙ ap (λ (xs : List (Act H)). t.1.0 ++ xs)
          (u.1.2 ∙ ap (λ (xs : List (Act H)). u.1.0 ++ xs) u.1.4.0 ∙ append-nil u.1.0 ∙ u.1.3)) ∙ sym (append_assoc before t.1.0 (asked ∷ [])) in
          (u.0, met.0, subst (λ (xs : List (Act H)). Contains xs asked) (sym all) (Contains-push (before ++ t.1.0) asked), met.1, met.2)

  healing_rests : (hosts : List Address) (draws : Option Draws) (r : Result Bool ClusterError) (acts : List (Act H)) → IsHealing Came now hosts draws r acts → AllHealRest Came now [] acts
  healing_rests hosts None r acts h = none_rests (HealRestsOn Came now) [] acts h.0
  healing_rests hosts (Some draws) r acts h =
      next_rests (HealRestsOn Came now) (Chooses hosts draws) (CarriesOut Came now) [] acts r h (chooses_rest hosts draws [])
      (λ choice xs ys p q. carries_rest choice xs (chosen_listed hosts draws choice [] xs p) r ys q)

pub heals_rest : {H : Type 0} (Came : MayAnswer) → HealsRest H Came
heals_rest Came now hosts draws r acts h = healing_rests Came now hosts draws r acts h
