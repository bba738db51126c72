-- What a membership may be edited by, and what it is then.
use Rattle.std.proofs.Common.{◌≡◌, ◌≢◌, ℕ, ◌&&◌, Bool, true, false, not, cond, eqb, List, [], ◌∷◌, ◌++◌, length, Option, Some, None, map, refl, sym, ◌∙◌, ap, subst, inl, inr}
use Rattle.std.specs.Prelude.{option_map}
use Rattle.std.proofs.lemmas.Bool.{and_from, and_parts, eq-eqb, eqb-true, ne_eqb, cases_eq, not-false}
use Rattle.change_core.specs.declared.changes.Change.{Change}
use Rattle.change_core.specs.declared.statuses.Status.{Status}
use Rattle.change_core.specs.declared.statuses.Status.TheVariants.{Alive, Suspect, Faulty, Leave, Tombstone}
use Rattle.std.specs.Option.{is_none, option_map_or}
use Rattle.change_core.specs.Change.{Exceeds, exceeds, entry_of}
use Rattle.change_core.specs.Members.{greatest, members, is_news, alters}
use Rattle.change_core.specs.Refutation.{is_refuted}
use Rattle.change_core.specs.Status.{rank}
use Rattle.change_core.proofs.Ascends.{Contains-In, In-Contains}
use Rattle.change_core.proofs.Precedence.{exceeds-true, same_from_rank}
use Rattle.detector_core.specs.declared.timers.Timer.{Timer}
use Rattle.detector_core.specs.Timers.{HasTimer}
use Rattle.member_core.specs.declared.verdicts.Verdict.{Verdict}
use Rattle.member_core.specs.declared.verdicts.Verdict.TheVariants.{Old, Take, Refute, Exhausted, Full}
use Rattle.member_core.specs.Membership.{Membership, IsMembership, IsOwnStatus, judged, judged_other, judged_own, put_in, own_after, own_committed}
use Rattle.member_core.proofs.Commits.{Alters, CanPut-refute, is_news-alters, is_refuted-judged, members-refuted, refuted, refutes}
use Rattle.node_core.specs.declared.edits.Edit.{Edit}
use Rattle.node_core.specs.declared.edits.Edit.TheVariants.{Judged, Own}
use Rattle.node_core.specs.Edits.{entry_in, membership_of, IsTimed, MayEdit}
use Rattle.node_core.specs.Expiring.{timer_of}
use Rattle.node_core.specs.Invariant.{Purpose, purpose, purpose_of}
use Rattle.node_core.specs.Node.{asserts, has_deadline, is_timed, next_status}
use Rattle.node_core.specs.Parts.{Parts, AreParts, node_of}
use Rattle.node_core.proofs.Agreed.{own_change-parts}
use Rattle.node_core.proofs.Listed.{address-greatest}

-- room takes no part in it
MayEdit-room : (m : Membership) (room : ℕ) (edit : Edit) → MayEdit (record m { room = room }) edit → MayEdit m edit
MayEdit-room m room (Judged Old) may = may
MayEdit-room m room (Judged (Take c)) may = may
MayEdit-room m room (Judged (Refute given next)) may = may
MayEdit-room m room (Judged Exhausted) may = may
MayEdit-room m room (Judged Full) may = may
MayEdit-room m room (Own c) may = may

-- what edits the membership of a node edits that of its parts
pub MayEdit-parts : {H : Type 0} (hash_of : H → List ℕ → ℕ) (p : Parts H) → AreParts hash_of p → (edit : Edit) → MayEdit (membership_of (node_of p)) edit → MayEdit p.members edit
MayEdit-parts hash_of p parts edit may =
    MayEdit-room p.members 0 edit
    (subst (λ (n : ℕ). MayEdit (record { own = p.members.own; members = p.members.members; max = n; room = 0 }) edit) (sym parts.most)
    (subst (λ (c : Change). MayEdit (record { own = c; members = p.members.members; max = p.config.max_members; room = 0 }) edit) (own_change-parts hash_of p parts) may))

-- and the other way
pub judged-parts : {H : Type 0} (hash_of : H → List ℕ → ℕ) (p : Parts H) → AreParts hash_of p → (c : Change) → judged (membership_of (node_of p)) c ≡ judged p.members c
judged-parts hash_of p parts c =
    ap (λ (d : Change). judged (record { own = d; members = p.members.members; max = p.config.max_members; room = 0 }) c) (own_change-parts hash_of p parts)
    ∙ ap (λ (n : ℕ). judged (record { own = p.members.own; members = p.members.members; max = n; room = 0 }) c) (sym parts.most)

-- a change about another that is held, past its entry, is taken
pub judged-known : {H : Type 0} (hash_of : H → List ℕ → ℕ) (p : Parts H) → AreParts hash_of p → (c held : Change) → c.address ≢ p.members.own.address
    → greatest p.members.members c.address ≡ Some held → Exceeds c held → judged (membership_of (node_of p)) c ≡ Take c
judged-known hash_of p parts c held other e past =
    judged-parts hash_of p parts c
    ∙ ap (λ b. cond b (judged_own p.members.own c) (judged_other p.members.members p.members.max c)) (ne_eqb c.address p.members.own.address other)
    ∙ ap (λ (o : Option Change). cond (alters o c) (cond (is_none o && eqb (length p.members.members) p.members.max) Full (Take c)) Old) e
    ∙ ap (λ b. cond b (Take c) Old) (exceeds-true c held past)

pub asserts-own : (s : Status) → IsOwnStatus s → asserts s ≡ true
asserts-own Alive h = refl
asserts-own Suspect h = absurd h
asserts-own Faulty h = absurd h
asserts-own Leave h = refl
asserts-own Tombstone h = absurd h

-- what the membership gains by an edit is news, and about the node itself it is what it may assert
pub record IsGain (m : Membership) (c : Change) : Type 0 where
  pub news : is_news m.members c ≡ true
  pub stays : c.address ≡ m.own.address → IsOwnStatus c.status

module _ (m : Membership) (stands : IsMembership m.own m.members m.max) where
  own_news : (c : Change) → c.address ≡ m.own.address → is_news m.members c ≡ exceeds c m.own
  own_news c same = ap (λ (o : Option Change). alters o c) (ap (greatest m.members) same ∙ stands.holds_itself)

  -- a change that is taken about the node itself has the status that the node holds
  taken_stays : (c : Change) → judged m c ≡ Take c → is_news m.members c ≡ true → c.address ≡ m.own.address → IsOwnStatus c.status
  taken_stays c e news same =
      let plain : is_refuted m.own.address (Some m.own) c ≡ false
      = ap (λ (g : Option Change). is_refuted m.own.address g c) (sym stands.holds_itself) ∙ is_refuted-judged m c stands ∙ ap refutes e in
      let exceeding : exceeds c m.own ≡ true = sym (own_news c same) ∙ news in
      let rest : (exceeds c m.own && not (eqb (rank c.status) (rank m.own.status))) ≡ false
      = subst (λ (b : Bool). (b && (exceeds c m.own && not (eqb (rank c.status) (rank m.own.status)))) ≡ false) (eq-eqb c.address m.own.address same) plain in
      let ranks : not (eqb (rank c.status) (rank m.own.status)) ≡ false
      = subst (λ (b : Bool). (b && not (eqb (rank c.status) (rank m.own.status))) ≡ false) exceeding rest in
      subst IsOwnStatus (sym (same_from_rank c.status m.own.status (eqb-true (rank c.status) (rank m.own.status) (not-false _ ranks)))) stands.alive_or_leave

  pub IsGain-edit : (edit : Edit) → MayEdit m edit → (c : Change) → entry_in edit ≡ Some c → IsGain m c
  IsGain-edit (Judged Old) may c e = absurd may
  IsGain-edit (Judged (Take d)) may c e =
      let same : d ≡ c = cc in
      let news : is_news m.members d ≡ true = is_news-alters m d stands (subst Alters (sym may) tt) in
      subst (IsGain m) same (record { news = news; stays = taken_stays d may news })
  IsGain-edit (Judged (Refute given next)) may c e =
      let same : next ≡ c = cc in
      let put = CanPut-refute m given next stands may in
      let about : next.address ≡ m.own.address = ap (λ (x : Change). x.address) (refuted m given next stands may).2 in
      subst (IsGain m) same (record { news = (put.own about).0; stays = λ s. (put.own s).1 })
  IsGain-edit (Judged Exhausted) may c e = absurd may
  IsGain-edit (Judged Full) may c e = absurd may
  IsGain-edit (Own d) may c e =
      let same : d ≡ c = cc in
      subst (IsGain m) same (record { news = own_news d may.overrides.0 ∙ exceeds-true d m.own may.overrides.1; stays = λ s. may.alive_or_leave })

  -- the members are those with the entry more
  pub members-put : (v : Verdict) → MayEdit m (Judged v) → (c : Change) → entry_in (Judged v) ≡ Some c → members (m.members ++ put_in v) ≡ members (m.members ++ c ∷ [])
  members-put Old may c e = absurd may
  members-put (Take d) may c e = let same : d ≡ c = cc in ap (λ (x : Change). members (m.members ++ x ∷ [])) same
  members-put (Refute given next) may c e =
      let same : next ≡ c = cc in members-refuted m given next stands may ∙ ap (λ (x : Change). members (m.members ++ x ∷ [])) same
  members-put Exhausted may c e = absurd may
  members-put Full may c e = absurd may

  address_after : (c : Change) → (own_after m.own c).address ≡ m.own.address
  address_after c = elim (cases_eq c.address m.own.address) [
    | inl e ↦ ap (λ b. (cond b c m.own).address) (eq-eqb c.address m.own.address e) ∙ e
    | inr n ↦ ap (λ b. (cond b c m.own).address) (ne_eqb c.address m.own.address n)
  ]

  -- and the node's own address stays
  pub address-committed : (v : Verdict) → MayEdit m (Judged v) → (own_committed m.own v).address ≡ m.own.address
  address-committed Old may = absurd may
  address-committed (Take c) may = address_after c
  address-committed (Refute given next) may = ap (λ (x : Change). x.address) (refuted m given next stands may).2
  address-committed Exhausted may = absurd may
  address-committed Full may = absurd may

-- the timer of an address, where there is one, is one of the list
HasTimer-of : (ts : List Timer) (a : ℕ) (t : Timer) → timer_of ts a ≡ Some t → HasTimer ts a
HasTimer-of [] a t e = cc
HasTimer-of (u ∷ ts) a t e = by (eqb u.address a) refl (λ k. HasTimer-of ts a t k) e
  where
    by : (b : Bool) → eqb u.address a ≡ b → (timer_of ts a ≡ Some t → HasTimer ts a) → cond b (Some u) (timer_of ts a) ≡ Some t → HasTimer (u ∷ ts) a
    by true same again k = Contains-In a (map (λ (x : Timer). x.address) (u ∷ ts)) (inl (sym (eqb-true u.address a same)))
    by false same again k = Contains-In a (map (λ (x : Timer). x.address) (u ∷ ts)) (inr (In-Contains a (map (λ (x : Timer). x.address) ts) (again k)))

timer_of-some : (o : Option Timer) (p : Purpose) → option_map purpose_of o ≡ Some p → (t : Timer) × (o ≡ Some t)
timer_of-some None p e = cc
timer_of-some (Some t) p e = (t, refl)

-- each entry of another with a deadline has a timer
pub IsTimed-kept : {H : Type 0} (hash_of : H → List ℕ → ℕ) (p : Parts H) → AreParts hash_of p → (a : ℕ) → IsTimed p.members.own.address p.members.members p.timers.timers a
IsTimed-kept hash_of p parts a c held timed =
    let r = timer_of-some (timer_of p.timers.timers a) _ (parts.kept.timed a ∙ ap (purpose p.members.own.address) held ∙ ap (λ b. cond b (Some (c.incarnation, next_status c.status)) None) timed) in
    HasTimer-of p.timers.timers a r.0 r.1

-- what is held of an address with a deadline has its timer, where the address is another's
pub HasTimer-held : (own : ℕ) (members : List Change) (timers : List Timer) (c : Change) → IsTimed own members timers c.address → is_timed own c ≡ true
    → option_map_or (λ e. has_deadline e.status) (option_map entry_of (greatest members c.address)) false ≡ true → HasTimer timers c.address
HasTimer-held own members timers c timed is waits = by_held (greatest members c.address) refl waits
  where
    by_held : (o : Option Change) → greatest members c.address ≡ o → option_map_or (λ e. has_deadline e.status) (option_map entry_of o) false ≡ true → HasTimer timers c.address
    by_held None e h = cc
    by_held (Some held) e h =
        let other : not (eqb held.address own) ≡ true
        = ap (λ (a : ℕ). not (eqb a own)) (address-greatest members c.address held e) ∙ (and_parts (has_deadline c.status) (not (eqb c.address own)) is).1 in
        timed held e (and_from (has_deadline held.status) (not (eqb held.address own)) h other)
