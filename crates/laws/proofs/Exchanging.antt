-- One node takes changes that another holds.
use Rattle.std.proofs.Common.{◌≡◌, ◌≢◌, ◌⊎◌, ℕ, Bool, true, false, cond, eqb, not, ◌&&◌, List, [], ◌∷◌, ◌++◌, Option, Some, None, append-nil, refl, sym, ◌∙◌, ap, subst, inl, inr}
use Rattle.std.specs.List.{Contains}
use Rattle.std.proofs.lemmas.Bool.{eqb-true}
use Rattle.change_core.specs.declared.changes.Change.{Change}
use Rattle.change_core.specs.Change.{Exceeds, exceeds}
use Rattle.change_core.specs.Members.{greatest, greater, members, IsMemberList}
use Rattle.change_core.specs.Refutation.{refutation, is_refuted, refutations, log_one}
use Rattle.change_core.specs.Status.{rank}
use Rattle.change_core.proofs.MemberLaws.{greatest-log_one}
use Rattle.change_core.proofs.Members.{Contains-member_list, greatest-append, greatest-members, members-IsMemberList, IsGreatest-greatest, greater-None, unnamed-greatest}
use Rattle.change_core.proofs.Precedence.{exceeds-true, exceeds-false, Exceeds-irrefl, same_from_rank}
use Rattle.node_core.specs.Calls.{OfEvent, WithReply}
use Rattle.node_core.specs.Invariant.{IsNode}
use Rattle.node_core.specs.Log.{log_given}
use Rattle.node_core.specs.Node.{Node, own_change, or_birth}
use Rattle.node_core.specs.declared.events.Event.{Event}
use Rattle.node_core.specs.declared.events.Reply.{Reply}
use Rattle.node_core.specs.Run.{given_in, said_in}
use Rattle.node_core.specs.Step.{NodeStep}
use Rattle.node_core.proofs.Invariant.{calls_keep_it}
use Rattle.node_core.proofs.Following.{members_are_log}
use Rattle.node_core.proofs.Itself.{calls_leave_itself}
use Rattle.node_core.proofs.Synchronising.{takes_greatest}
use Rattle.laws.specs.Convergence.{Takes, HoldsNoLess, CallsTake}
use Rattle.laws.proofs.Covering.{log_given-old, log_given-given, log_given-quiet, greatest-held}
use Rattle.laws.proofs.Spreading.{Covers, greater-either}

-- what the greater of two is not, neither exceeds

pub covers-not_exceeds : (held c : Change) → Covers (Some held) (Some c) → Exceeds c held → ⊥
covers-not_exceeds held c h above =
    let more : Some (cond (exceeds c held) c held) ≡ Some c = ap (λ b. Some (cond b c held)) (exceeds-true c held above) in
    let same : Some c ≡ Some held = sym more ∙ h in
    let is : c ≡ held = cc in
    Exceeds-irrefl held (subst (λ (d : Change). Exceeds d held) is above)

-- a node's own status stays, whatever it is given

status-one : (own : ℕ) (L : List Change) (held c : Change) → greatest L own ≡ Some held
    → (now : Change) × (greatest (log_one own L c) own ≡ Some now) × (now.status ≡ held.status)
status-one own L held c e = by_test (is_refuted own (Some held) c) refl
  where
    plain : is_refuted own (Some held) c ≡ false → greatest (log_one own L c) own ≡ greater (Some held) (cond (eqb c.address own) (Some c) None)
    plain f =
        ap (λ (o : Option Change). greatest (L ++ c ∷ refutations own o c) own) e
        ∙ ap (λ b. greatest (L ++ c ∷ cond b (refutation held c ∷ []) []) own) f
        ∙ greatest-append L (c ∷ []) own ∙ ap (λ o. greater o (greatest (c ∷ []) own)) e

    by_exceeds : (b : Bool) → exceeds c held ≡ b → eqb c.address own ≡ true → (eqb c.address own && (exceeds c held && not (eqb (rank c.status) (rank held.status)))) ≡ false
        → (now : Change) × (Some (cond b c held) ≡ Some now) × (now.status ≡ held.status)
    by_exceeds false x t f = (held, refl, refl)
    by_exceeds true x t f = (c, refl, same_from_rank c.status held.status (eqb-true (rank c.status) (rank held.status) (unnot (eqb (rank c.status) (rank held.status)) rest)))
      where
        rest : not (eqb (rank c.status) (rank held.status)) ≡ false
        rest = sym (ap (λ b. b && (exceeds c held && not (eqb (rank c.status) (rank held.status)))) t ∙ ap (λ b. b && not (eqb (rank c.status) (rank held.status))) x) ∙ f

        unnot : (b : Bool) → not b ≡ false → b ≡ true
        unnot true n = refl
        unnot false n = sym n

    by_address : (b : Bool) → eqb c.address own ≡ b → is_refuted own (Some held) c ≡ false
        → (now : Change) × (greater (Some held) (cond b (Some c) None) ≡ Some now) × (now.status ≡ held.status)
    by_address false a f = (held, refl, refl)
    by_address true a f = by_exceeds (exceeds c held) refl a f

    by_test : (b : Bool) → is_refuted own (Some held) c ≡ b → (now : Change) × (greatest (log_one own L c) own ≡ Some now) × (now.status ≡ held.status)
    by_test true t = (refutation held c, greatest-log_one own L held c e t, refl)
    by_test false f = let r = by_address (eqb c.address own) refl f in (r.0, plain f ∙ r.1, r.2)

status-given : (own : ℕ) (L cs : List Change) (held : Change) → greatest L own ≡ Some held
    → (now : Change) × (greatest (log_given own L cs) own ≡ Some now) × (now.status ≡ held.status)
status-given own L [] held e = (held, e, refl)
status-given own L (c ∷ cs) held e =
    let one = status-one own L held c e in
    let rest = status-given own (log_one own L c) cs one.0 one.1 in
    (rest.0, rest.1, rest.2 ∙ one.2)

-- what one taking does to the taker

module _ {H : Type 0} (whole : Bool) (taker : Node H) (told : List Change) (new : Node H) (taker_kept : IsNode taker) (listed : IsMemberList told) (takes : Takes whole taker told new) where
  abbrev cs : List Change
  cs = takes.taken

  abbrev log : List Change
  log = log_given taker.own taker.members cs

  holds : (x : ℕ) → greatest new.members x ≡ greatest log x
  holds x = ap (λ (M : List Change). greatest M x) takes.members_are ∙ greatest-members log x

  holding : (x : ℕ) (L : List Change) → ((c : Change) → Contains L c → Contains log c) → Covers (greatest new.members x) (greatest L x)
  holding x L all = ap (λ o. greater o (greatest L x)) (holds x) ∙ sym (greatest-append log L x) ∙ greatest-held log L x all ∙ sym (holds x)

  pub took-keeps : (x : ℕ) → Covers (greatest new.members x) (greatest taker.members x)
  took-keeps x = holding x taker.members (log_given-old taker.own taker.members cs)

  pub took-covers : whole ≡ true → (x : ℕ) → Covers (greatest new.members x) (greatest told x)
  took-covers w x = by_told (greatest told x) refl
    where
      by_told : (o : Option Change) → greatest told x ≡ o → Covers (greatest new.members x) o
      by_told None e = greater-None (greatest new.members x)
      by_told (Some c) e =
          let is = IsGreatest-greatest told x c e in
          let no_less = takes.covers w c is.listed in
          subst (λ (o : Option Change). Covers o (Some c)) (sym no_less.1 ∙ ap (λ (y : ℕ). greatest new.members y) is.about)
          (ap (λ b. Some (cond b c no_less.0)) (exceeds-false c no_less.0 no_less.2))

  -- what is given about an address is what the giver holds of it
  given-held : (x : ℕ) (o : Option Change) → greatest cs x ≡ o → (o ≡ None) ⊎ (o ≡ greatest told x)
  given-held x None e = inl refl
  given-held x (Some c) e =
      let is = IsGreatest-greatest cs x c e in
      inr (sym (subst (λ (y : ℕ). greatest told y ≡ Some c) is.about (Contains-member_list told c listed (takes.of_given c is.listed))))

  pub took-of_others : (x : ℕ) → x ≢ taker.own → (greatest new.members x ≡ greatest taker.members x) ⊎ (greatest new.members x ≡ greatest told x)
  took-of_others x other =
      let both : greatest new.members x ≡ greater (greatest taker.members x) (greatest cs x)
      = holds x ∙ (takes_greatest taker.own taker.members cs).of_others x other ∙ greatest-append taker.members cs x in
      elim (greater-either (greatest taker.members x) (greatest cs x)) [
        | inl mine ↦ inl (both ∙ mine)
        | inr theirs ↦ elim (given-held x (greatest cs x) refl) [
          | inl none ↦ inl (both ∙ ap (λ o. greater (greatest taker.members x) o) none ∙ greater-None (greatest taker.members x))
          | inr held ↦ inr (both ∙ theirs ∙ held)
        ]
      ]

  -- of itself no more than it did, where the giver held no more
  pub took-of_itself : Covers (greatest taker.members taker.own) (greatest told taker.own) → greatest new.members taker.own ≡ greatest taker.members taker.own
  took-of_itself less = holds taker.own ∙ ap (λ (L : List Change). greatest L taker.own) (log_given-quiet taker.own taker.members cs taker_kept.held taker_kept.held_is quiet)
      ∙ greatest-append taker.members cs taker.own ∙ ap (λ o. greater o (greatest cs taker.own)) taker_kept.held_is ∙ still ∙ sym taker_kept.held_is
    where
      below : Covers (Some taker_kept.held) (greatest told taker.own)
      below = subst (λ (o : Option Change). Covers o (greatest told taker.own)) taker_kept.held_is less

      quiet : (c : Change) → Contains cs c → c.address ≡ taker.own → Exceeds c taker_kept.held → ⊥
      quiet c h about = covers-not_exceeds taker_kept.held c
          (subst (λ (o : Option Change). Covers (Some taker_kept.held) o)
          (subst (λ (y : ℕ). greatest told y ≡ Some c) about (Contains-member_list told c listed (takes.of_given c h))) below)

      still : Covers (Some taker_kept.held) (greatest cs taker.own)
      still = elim (given-held taker.own (greatest cs taker.own) refl) [
        | inl none ↦ ap (λ o. greater (Some taker_kept.held) o) none
        | inr held ↦ subst (λ (o : Option Change). Covers (Some taker_kept.held) o) (sym held) below
      ]

  pub took-status : (own_change new).status ≡ (own_change taker).status
  took-status =
      let s = status-given taker.own taker.members cs taker_kept.held taker_kept.held_is in
      ap (λ (a : ℕ). (or_birth a (greatest new.members a)).status) takes.own_stays
      ∙ ap (λ (o : Option Change). (or_birth taker.own o).status) (holds taker.own ∙ s.1) ∙ s.2
      ∙ sym (ap (λ (o : Option Change). (or_birth taker.own o).status) taker_kept.held_is)

-- a call of a node

-- a node whose members are those of a list holds no less than the list
pub listed-held : {H : Type 0} (log : List Change) (new : Node H) → new.members ≡ members log → HoldsNoLess new log
listed-held {H} log new is c there = by_value (greatest log c.address) refl
  where
    by_value : (o : Option Change) → greatest log c.address ≡ o → (held : Change) × (greatest new.members c.address ≡ Some held) × (Exceeds c held → ⊥)
    by_value None e = absurd (unnamed-greatest log c.address e c there refl)
    by_value (Some d) e = (d, ap (λ (M : List Change). greatest M c.address) is ∙ greatest-members log c.address ∙ e, (IsGreatest-greatest log c.address d e).highest c there refl)

-- the members after a call that makes no change of its own
pub merged-members : {H : Type 0} (hash_of : H → List ℕ → ℕ) (old new : Node H) (event : Event) (reply : Reply) → IsNode old → NodeStep hash_of old event reply new → said_in reply ≡ []
    → new.members ≡ members (log_given old.own old.members (given_in event reply))
merged-members hash_of old new event reply kept step none =
    members_are_log hash_of old new (event ∷ []) (reply ∷ []) (members-IsMemberList old.members kept.one_each) (new, step, refl)
    ∙ ap (λ (cs : List Change). members (log_given old.own old.members (given_in event reply) ++ cs)) none
    ∙ ap members (append-nil (log_given old.own old.members (given_in event reply)))

pub calls_take : {H : Type 0} (hash_of : H → List ℕ → ℕ) → CallsTake hash_of
calls_take hash_of old new event reply kept step none =
    let merged = merged-members hash_of old new event reply kept step none in
    record {
      taken = given_in event reply;
      of_given = λ c h. h;
      covers = λ w c h. listed-held (log_given old.own old.members (given_in event reply)) new merged c (log_given-given old.own old.members (given_in event reply) c h);
      members_are = merged;
      own_stays = (calls_leave_itself hash_of old new (OfEvent event) (WithReply reply) step).own_stays;
      kept = calls_keep_it hash_of old new event reply kept step;
    }
