-- What heals: how it may be refused, and whom a number chooses.
use Rattle.std.proofs.Common.{◌≡◌, ℕ, sym, ap, ◌∙◌, subst, inl, inr, Bool, true, false, Option, Some, None, Result, Ok, Err, List, drop}
use Rattle.std.specs.Prelude.{IfOk, IfErr}
use Rattle.std.specs.List.{list_any}
use Rattle.change_core.specs.declared.addresses.Address.{Address}
use Rattle.change_core.specs.declared.changes.Change.{Change}
use Rattle.change_core.specs.declared.changes.Sourced.{Sourced}
use Rattle.message_core.specs.declared.messages.Content.{Content}
use Rattle.message_core.specs.declared.messages.Content.TheVariants as content
use Rattle.message_core.specs.declared.messages.Message.{Message}
use Rattle.message_core.specs.declared.messages.News.{News}
use Rattle.node_core.specs.declared.errors.NodeError.{NodeError}
use Rattle.node_core.specs.declared.errors.NodeError.TheVariants as node
use Rattle.node_core.specs.declared.events.Event.TheVariants as call
use Rattle.node_core.specs.declared.events.Reply.TheVariants as reply
use Rattle.node_core.specs.Calls.{OfEvent, WithReply}
use Rattle.node_core.specs.Step.{Answers}
use Rattle.turn_lock.specs.declared.errors.LockError.{LockError}
use Rattle.turn_lock.specs.declared.errors.LockError.TheVariants as lock
use Rattle.locked_node.specs.declared.node.LockedNode.{LockedNode}
use Rattle.locked_node.specs.Passes.{NodePass, IsCalled}
use Rattle.peer_core.specs.declared.errors.ClusterError.{ClusterError}
use Rattle.peer_core.specs.declared.errors.ClusterError.TheVariants as error
use Rattle.peer_core.specs.declared.healing.Choice.{Choice}
use Rattle.peer_core.specs.declared.healing.Draws.{Draws}
use Rattle.peer_core.specs.declared.hearing.Heard.{Heard}
use Rattle.peer_core.specs.declared.hearing.Heard.TheVariants as heard
use Rattle.peer_core.specs.Acts.{Act, OfActs}
use Rattle.peer_core.specs.Errors.{error_of_lock, error_of_node, IsHealRefusal}
use Rattle.peer_core.specs.Healing.{CarriesOut, IsHealing, JoinsChosen, MeetsChosen, choice_of, chosen_host, chosen_member, met_at}
use Rattle.peer_core.specs.Joining.{HearsHost}
use Rattle.peer_core.specs.Links.{MayAnswer}
use Rattle.peer_core.specs.Meeting.{Corrects, CorrectsIf, TakesAndCorrects, differs_from, is_misnamed, misnames}
use Rattle.peer_core.specs.Parts.{allowed, let_in, Asks, Does, Gives, IsOfLock, Next}
use Rattle.peer_core.specs.Rounds.{Takes}

lock_heals : (l : LockError) → IsHealRefusal (error_of_lock l)
lock_heals lock.ForeignPass = tt
lock_heals lock.PassSpent = tt

pub named_healing : {A : Type 0} (r : Result A LockError) (answer : Result A ClusterError) → answer ≡ let_in r → IfErr answer IsHealRefusal
named_healing {A} (Ok a) answer e = subst (λ (x : Result A ClusterError). IfErr x IsHealRefusal) (sym e) tt
named_healing {A} (Err l) answer e = subst (λ (x : Result A ClusterError). IfErr x IsHealRefusal) (sym e) (lock_heals l)

listing_names : (held : List Change) (n : NodeError) → Answers held (Err n) → IsHealRefusal (error_of_node n)
listing_names held (node.BadConfig field) h = absurd h
listing_names held node.Exhausted h = absurd h
listing_names held node.Full h = absurd h
listing_names held node.AlreadyLeft h = absurd h
listing_names held node.NotLeft h = absurd h
listing_names held node.Busy h = absurd h
listing_names held node.Spent h = absurd h
listing_names held node.StaleProbe h = absurd h
listing_names held node.NotAsked h = absurd h
listing_names held node.Memory h = tt

listing_allowed : {H : Type 0} (hash_of : H → List ℕ → ℕ) (locked : LockedNode H) (p q : NodePass H) (r : Result (Result (List Change) NodeError) LockError)
    → IfOk r (λ a. IsCalled hash_of locked p q (OfEvent call.Members) (WithReply (reply.Members a))) → IfErr (allowed r) IsHealRefusal
listing_allowed hash_of locked p q (Ok (Ok a)) c = tt
listing_allowed hash_of locked p q (Ok (Err n)) c = listing_names c.before.members n c.step.0
listing_allowed hash_of locked p q (Err l) c = lock_heals l

pub named_listing : {H : Type 0} (hash_of : H → List ℕ → ℕ) (locked : LockedNode H) (p q : NodePass H) (r : Result (Result (List Change) NodeError) LockError)
    (answer : Result (List Change) ClusterError) → IfOk r (λ a. IsCalled hash_of locked p q (OfEvent call.Members) (WithReply (reply.Members a)))
    → answer ≡ allowed r → IfErr answer IsHealRefusal
named_listing hash_of locked p q r answer c e =
    subst (λ (x : Result (List Change) ClusterError). IfErr x IsHealRefusal) (sym e) (listing_allowed hash_of locked p q r c)

of_lock : (e : ClusterError) → IsOfLock e → IsHealRefusal e
of_lock e h = subst IsHealRefusal (sym h.1) (lock_heals h.0)

module _ {H : Type 0} where
  gives_no : {A : Type 0} (a : A) (e : ClusterError) (acts : List (Act H)) → Gives a (Err e) acts → ⊥
  gives_no {A} a e acts h = let no : Err e ≡ Ok a = h.1 in cc

  takes_refusal : (now : ℕ) (m : Message) (e : ClusterError) (acts : List (Act H)) → Takes now m (Err e) acts → IsHealRefusal e
  takes_refusal now m e acts (inl h) = of_lock e h.1
  takes_refusal now m e acts (inr t) = absurd (gives_no tt e t.1.1 t.1.4)

  hears_refusal : (now : ℕ) (x : Heard) (e : ClusterError) (acts : List (Act H)) → HearsHost now x (Err e) acts → IsHealRefusal e
  hears_refusal now (heard.Answer m) e acts (inl h) = takes_refusal now m e acts h
  hears_refusal now (heard.Answer m) e acts (inr t) = absurd (gives_no true e t.1.1 t.1.4)
  hears_refusal now heard.Other e acts h = absurd (gives_no false e acts h)
  hears_refusal now heard.OutOfMemory e acts h = let is : e ≡ error.Memory = cc (h.1) in subst IsHealRefusal (sym is) tt

  asks_refusal : (Asked : Heard → OfActs H) (now : ℕ) (e : ClusterError) (acts : List (Act H)) → Next (Asks Asked) (HearsHost now) (Err e) acts → IsHealRefusal e
  asks_refusal Asked now e acts (inl h) = of_lock e h.1
  asks_refusal Asked now e acts (inr t) = hears_refusal now t.0 e t.1.1 t.1.4

  corrected_refusal : (Came : MayAnswer) (now : ℕ) (is : Bool) (a : Address) (e : ClusterError) (acts : List (Act H)) → CorrectsIf Came now is a (Err e) acts → IsHealRefusal e
  corrected_refusal Came now true a e acts h = asks_refusal _ now e acts h
  corrected_refusal Came now false a e acts h = absurd (gives_no false e acts h)

  pub corrects_refusal : (Came : MayAnswer) (now : ℕ) (a : Address) (x : Heard) (e : ClusterError) (acts : List (Act H)) → Corrects Came now a x (Err e) acts → IsHealRefusal e
  corrects_refusal Came now a x e acts (inl h) = of_lock e h.1
  corrects_refusal Came now a x e acts (inr t) = corrected_refusal Came now (is_misnamed t.0 x) a e t.1.1 t.1.4

  taken_refusal : (Came : MayAnswer) (now : ℕ) (a : Address) (x : Heard) (e : ClusterError) (acts : List (Act H)) → TakesAndCorrects Came now a x (Err e) acts → IsHealRefusal e
  taken_refusal Came now a x e acts (inl h) = hears_refusal now x e acts h
  taken_refusal Came now a x e acts (inr t) = corrects_refusal Came now a x e t.1.1 t.1.4

  meets_refusal : (Came : MayAnswer) (now : ℕ) (member : Option Address) (e : ClusterError) (acts : List (Act H)) → MeetsChosen Came now member (Err e) acts → IsHealRefusal e
  meets_refusal Came now None e acts h = absurd (gives_no false e acts h)
  meets_refusal Came now (Some member) e acts (inl h) = of_lock e h.1
  meets_refusal Came now (Some member) e acts (inr t) = taken_refusal Came now member t.0 e t.1.1 t.1.4

  joins_refusal : (Came : MayAnswer) (now : ℕ) (host : Option Address) (e : ClusterError) (acts : List (Act H)) → JoinsChosen Came now host (Err e) acts → IsHealRefusal e
  joins_refusal Came now None e acts h = absurd (gives_no false e acts h)
  joins_refusal Came now (Some host) e acts h = asks_refusal _ now e acts h

  carried_refusal : (Came : MayAnswer) (now : ℕ) (choice : Choice) (e : ClusterError) (acts : List (Act H)) → CarriesOut Came now choice (Err e) acts → IsHealRefusal e
  carried_refusal Came now choice e acts (inl h) = meets_refusal Came now choice.member e acts h
  carried_refusal Came now choice e acts (inr t) = joins_refusal Came now choice.host e t.1.1 t.1.4

  -- a choice that is carried out is refused by the lock or for memory alone
  pub named_choice : (Came : MayAnswer) (now : ℕ) (choice : Choice) {locked : LockedNode H} {p q : NodePass H} (r : Result Bool ClusterError)
      → Does locked (CarriesOut Came now choice) r p q → IfErr r IsHealRefusal
  named_choice Came now choice (Ok joined) d = tt
  named_choice Came now choice (Err e) d = carried_refusal Came now choice e _ d.makes.so

-- what is known of who says of the node what it is not
pub says_so : (own : Change) (c : Content) (news : News) (b : Bool) (changes : List Sourced) → c ≡ content.Ack news → changes ≡ news.changes
    → b ≡ list_any (λ s. differs_from own s.change) changes → b ≡ misnames own c
says_so own c news b changes is are e =
    e ∙ ap (λ (xs : List Sourced). list_any (λ s. differs_from own s.change) xs) are ∙ sym (ap (λ (x : Content). misnames own x) is)

pub corrected_as : {H : Type 0} (Came : MayAnswer) (now : ℕ) (a : Address) (is known : Bool) {locked : LockedNode H} {p q : NodePass H} {r : Result Bool ClusterError}
    → known ≡ is → Does locked (CorrectsIf Came now known a) r p q → Does locked (CorrectsIf Came now is a) r p q
corrected_as Came now a is known {locked} {p} {q} {r} e d = subst (λ (b : Bool). Does locked (CorrectsIf Came now b a) r p q) e d

-- whom the numbers choose, of the members that the node told and of the hosts
pub choice_is : (own : Address) (held xs ys : List Change) (hosts : List Address) (d : Draws) (member host : Option Address) → xs ≡ held → ys ≡ held
    → member ≡ chosen_member own xs d.member → host ≡ chosen_host own ys hosts d.host → record { member = member; host = host } ≡ choice_of own held hosts d
choice_is own held xs ys hosts d member host is are m h =
    let met : member ≡ chosen_member own held d.member = m ∙ ap (λ (zs : List Change). chosen_member own zs d.member) is in
    let asked : host ≡ chosen_host own held hosts d.host = h ∙ ap (λ (zs : List Change). chosen_host own zs hosts d.host) are in cc

-- the same with the hosts and the numbers that are known
pub heals_as : {H : Type 0} (Came : MayAnswer) (now : ℕ) (hosts known : List Address) (draws given : Option Draws) {locked : LockedNode H} {p q : NodePass H} {r : Result Bool ClusterError}
    → known ≡ hosts → given ≡ draws → Does locked (IsHealing Came now known given) r p q → Does locked (IsHealing Came now hosts draws) r p q
heals_as Came now hosts known draws given {locked} {p} {q} {r} is e d =
    subst (λ (hs : List Address). Does locked (IsHealing Came now hs draws) r p q) is
    (subst (λ (x : Option Draws). Does locked (IsHealing Came now known x) r p q) e d)

-- the member at a place is still to be found among those from here on, at the place that is left
abbrev pub IsAhead : Address → List Change → ℕ → ℕ → ℕ → Type 0
IsAhead own held place i left = met_at own held place ≡ met_at own (drop i held) left
