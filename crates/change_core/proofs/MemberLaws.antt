-- Laws of the greatest, of members, of one change more, of serving and of refutations, as the public laws state them.
use Rattle.std.proofs.Common.{◌≡◌, ◌≢◌, ◌⊎◌, ◌↔◌, ℕ, ◌<◌, Bool, true, false, not, eqb, ◌&&◌, cond, List, [], ◌∷◌, ◌++◌, Option, Some, None, length, take, drop, get_or, suc, arith, refl, inl, inr, sym, ◌∙◌, ap, subst, append_assoc, drop-cons}
use Rattle.std.specs.List.{Contains}
use Rattle.std.specs.Prelude.{IsTrue, IsSomeAnd}
use Rattle.std.proofs.lemmas.Bool.{cases_Bool, eqb-true, eq-eqb, ne_eqb, false≢true}
use Rattle.std.proofs.lemmas.List.{take-append-drop, append-nil}
use Rattle.change_core.specs.declared.changes.Change.{Change}
use Rattle.change_core.specs.Change.{Exceeds, exceeds, Overrides}
use Rattle.change_core.specs.Edits.{IsInserted, IsReplaced}
use Rattle.change_core.specs.Members.{greatest, members, serving, alters, is_news, IsGreatest, IsMemberList, HaveSameChanges, change_text}
use Rattle.change_core.specs.Refutation.{refutation, is_refuted, refutations, log_one}
use Rattle.change_core.specs.Status.{rank, IsServing}
use Rattle.change_core.proofs.Precedence.{Exceeds-true, exceeds-true, exceeds-false, Exceeds-trans, same_from_rank, same_from_neither}
use Rattle.change_core.proofs.Members.{None-greatest, unnamed-greatest, IsGreatest-greatest, greatest-members, IsMemberList-members, members-IsMemberList, members-same, members-append, members-replaced, Contains-member_list}
use Rattle.change_core.proofs.News.{members-no_news, members-inserted_at, gap_for, greatest-news}
use Rattle.change_core.proofs.Serving.{serving-greatest, greatest-serving}
use Rattle.change_core.proofs.DigestTexts.{change_text-prefix}

-- of two changes about one address one overrides the other, or they are the same
pub Overrides-total : (c d : Change) → c.address ≡ d.address → (c ≡ d) ⊎ (Overrides c d ⊎ Overrides d c)
Overrides-total c d a = elim (cases_Bool (exceeds c d)) [
  | inl above ↦ inr (inl (a, Exceeds-true c d above))
  | inr f ↦ elim (cases_Bool (exceeds d c)) [
    | inl below ↦ inr (inr (sym a, Exceeds-true d c below))
    | inr g ↦ inl (same_from_neither c d a (λ x. false≢true (sym f ∙ exceeds-true c d x)) (λ x. false≢true (sym g ∙ exceeds-true d c x)))
  ]
]

-- the greatest overrides every other change about its address
pub Overrides-greatest : (cs : List Change) (a : ℕ) (c d : Change) → greatest cs a ≡ Some c → Contains cs d → d.address ≡ a → (c ≡ d) ⊎ Overrides c d
Overrides-greatest cs a c d e h s =
    let g : IsGreatest cs a c = IsGreatest-greatest cs a c e in
    elim (Overrides-total c d (g.about ∙ sym s)) [
      | inl same ↦ inl same
      | inr apart ↦ elim apart [ inl over ↦ inr over | inr under ↦ absurd (g.highest d h s under.1) ]
    ]

pub unnamed-None : (cs : List Change) (a : ℕ) → (greatest cs a ≡ None) ↔ ((c : Change) → Contains cs c → c.address ≢ a)
unnamed-None cs a = (unnamed-greatest cs a, None-greatest cs a)

-- the members are the greatest changes
pub Contains-members : (cs : List Change) (c : Change) → Contains (members cs) c ↔ (greatest cs c.address ≡ Some c)
Contains-members cs c = (to, from)
  where
    to : Contains (members cs) c → greatest cs c.address ≡ Some c
    to h = sym (greatest-members cs c.address) ∙ Contains-member_list (members cs) c (IsMemberList-members cs) h

    from : greatest cs c.address ≡ Some c → Contains (members cs) c
    from e = let g : IsGreatest (members cs) c.address c = IsGreatest-greatest (members cs) c.address c (greatest-members cs c.address ∙ e) in g.listed

pub IsMemberList-same : (cs ds : List Change) → IsMemberList cs → IsMemberList ds → HaveSameChanges cs ds → cs ≡ ds
IsMemberList-same cs ds h k s = sym (members-IsMemberList cs h) ∙ members-same cs ds s ∙ members-IsMemberList ds k

-- one change more

pub IsInserted-unknown : (cs : List Change) (c : Change) → greatest cs c.address ≡ None → IsInserted (members cs) c (members (cs ++ c ∷ []))
IsInserted-unknown cs c e =
    let m : IsMemberList (members cs) = IsMemberList-members cs in
    let gap = gap_for c (members cs) m (unnamed-greatest (members cs) c.address (greatest-members cs c.address ∙ e)) in
    record {
      before = take gap.0 (members cs);
      after = drop gap.0 (members cs);
      was = sym (take-append-drop gap.0 (members cs));
      is = sym (members-append cs (c ∷ [])) ∙ members-inserted_at (members cs) gap.0 c gap.2;
    }

pub IsReplaced-newer : (cs : List Change) (c d : Change) → greatest cs c.address ≡ Some d → Overrides c d → IsReplaced (members cs) d c (members (cs ++ c ∷ []))
IsReplaced-newer cs c d e o =
    let g : IsGreatest (members cs) c.address d = IsGreatest-greatest (members cs) c.address d (greatest-members cs c.address ∙ e) in
    replaced g.listed.0 g.listed.1 g.listed.2
  where
    replaced : (i : ℕ) → i < length (members cs) → get_or (members cs) i d ≡ d → IsReplaced (members cs) d c (members (cs ++ c ∷ []))
    replaced i l at =
        let prefix : List Change = take i (members cs) in
        let back : List Change = drop (suc i) (members cs) in
        let was : members cs ≡ prefix ++ d ∷ back = sym (take-append-drop i (members cs)) ∙ ap (λ ds. prefix ++ ds) (drop-cons (members cs) i d l) ∙ ap (λ x. prefix ++ x ∷ back) at in
        record {
          before = prefix;
          after = back;
          was = was;
          is = sym (members-append cs (c ∷ [])) ∙ ap (λ ds. members (ds ++ c ∷ [])) was ∙ members-replaced prefix back c d (subst IsMemberList was (IsMemberList-members cs)) o;
        }

pub members-overridden : (cs : List Change) (c d : Change) → greatest cs c.address ≡ Some d → (Overrides c d → ⊥) → members (cs ++ c ∷ []) ≡ members cs
members-overridden cs c d e n =
    let g : IsGreatest cs c.address d = IsGreatest-greatest cs c.address d e in
    members-no_news cs c (ap (λ o. alters o c) e ∙ exceeds-false c d (λ x. n (sym g.about, x)))

-- the serving addresses
pub Contains-serving : (cs : List Change) (a : ℕ) → Contains (serving cs) a ↔ IsSomeAnd (greatest cs a) (λ c. IsServing c.status)
Contains-serving cs a = (to, from (greatest cs a) refl)
  where
    to : Contains (serving cs) a → IsSomeAnd (greatest cs a) (λ c. IsServing c.status)
    to h = let w = greatest-serving cs a h in subst (λ o. IsSomeAnd o (λ c. IsServing c.status)) (sym w.1) w.2

    from : (o : Option Change) → greatest cs a ≡ o → IsSomeAnd o (λ c. IsServing c.status) → Contains (serving cs) a
    from None e s = absurd s
    from (Some c) e s = serving-greatest cs a c e s

-- a refutation

first_true : (b c : Bool) → (b && c) ≡ true → b ≡ true
first_true true c t = refl
first_true false c t = t

second_true : (b c : Bool) → (b && c) ≡ true → c ≡ true
second_true true c t = t
second_true false c t = absurd (false≢true t)

module _ (own : ℕ) (held given : Change) (about : held.address ≡ own) (refuted : is_refuted own (Some held) given ≡ true) where
  given_about : given.address ≡ own
  given_about = eqb-true given.address own (first_true (eqb given.address own) _ refuted)

  given_exceeds : exceeds given held ≡ true
  given_exceeds = first_true (exceeds given held) _ (second_true (eqb given.address own) _ refuted)

  pub Exceeds-refutation : Exceeds (refutation held given) given
  Exceeds-refutation = inl (omega arith)

  pub Overrides-refutation : Overrides (refutation held given) given
  Overrides-refutation = (about ∙ sym given_about, Exceeds-refutation)

  pub Overrides-refutation_held : Overrides (refutation held given) held
  Overrides-refutation_held = (refl, Exceeds-trans (refutation held given) given held Exceeds-refutation (Exceeds-true given held given_exceeds))

both_true : (b c : Bool) → b ≡ true → c ≡ true → (b && c) ≡ true
both_true true c t u = u
both_true false c t u = absurd (false≢true t)

-- which changes call for a refutation
pub is_refuted-Overrides : (own : ℕ) (held given : Change) → held.address ≡ own → IsTrue (is_refuted own (Some held) given) ↔ (Overrides given held × (given.status ≢ held.status))
is_refuted-Overrides own held given about = (to, from)
  where
    other_rank : Bool
    other_rank = not (eqb (rank given.status) (rank held.status))

    other_status : other_rank ≡ true → given.status ≡ held.status → ⊥
    other_status t e = false≢true (sym (ap not (eq-eqb (rank given.status) (rank held.status) (ap rank e))) ∙ t)

    to : is_refuted own (Some held) given ≡ true → Overrides given held × (given.status ≢ held.status)
    to t = (
      (given_about own held given about t ∙ sym about, Exceeds-true given held (given_exceeds own held given about t)),
      other_status (second_true (exceeds given held) other_rank (second_true (eqb given.address own) _ t)),
    )

    from : Overrides given held × (given.status ≢ held.status) → is_refuted own (Some held) given ≡ true
    from o = both_true (eqb given.address own) (exceeds given held && other_rank) (eq-eqb given.address own (o.0.0 ∙ about))
        (both_true (exceeds given held) other_rank (exceeds-true given held o.0.1)
        (ap not (ne_eqb (rank given.status) (rank held.status) (λ r. o.1 (same_from_rank given.status held.status r)))))

-- a change that calls for none stands alone
pub log_one-unanswered : (own : ℕ) (log : List Change) (given : Change) → (is_refuted own (greatest log own) given ≡ true → ⊥) → log_one own log given ≡ log ++ given ∷ []
log_one-unanswered own log given n = ap (λ rs. log ++ given ∷ rs) (none (greatest log own) n)
  where
    without : (b : Bool) (c : Change) → (b ≡ true → ⊥) → cond b (c ∷ []) [] ≡ []
    without true c m = absurd (m refl)
    without false c m = refl

    none : (o : Option Change) → (is_refuted own o given ≡ true → ⊥) → refutations own o given ≡ []
    none None m = refl
    none (Some held) m = without (is_refuted own (Some held) given) (refutation held given) m

-- the refutation is the greatest change about the node directly after it
pub greatest-log_one : (own : ℕ) (log : List Change) (held given : Change) → greatest log own ≡ Some held → is_refuted own (Some held) given ≡ true → greatest (log_one own log given) own ≡ Some (refutation held given)
greatest-log_one own log held given e refuted =
    let g : IsGreatest log own held = IsGreatest-greatest log own held e in
    let at : given.address ≡ own = given_about own held given g.about refuted in
    let news : is_news log given ≡ true = ap (λ o. alters o given) (ap (greatest log) at ∙ e) ∙ given_exceeds own held given g.about refuted in
    let taken : greatest (log ++ given ∷ []) own ≡ Some given = ap (greatest (log ++ given ∷ [])) (sym at) ∙ greatest-news log given news in
    let answered : is_news (log ++ given ∷ []) (refutation held given) ≡ true =
    ap (λ o. alters o (refutation held given)) (ap (greatest (log ++ given ∷ [])) g.about ∙ taken) ∙ exceeds-true (refutation held given) given (Exceeds-refutation own held given g.about refuted) in
    let whole : log_one own log given ≡ (log ++ given ∷ []) ++ refutation held given ∷ [] =
    ap (λ o. log ++ given ∷ refutations own o given) e ∙ ap (λ rs. log ++ given ∷ rs) (chosen (is_refuted own (Some held) given) refuted) ∙ sym (append_assoc log (given ∷ []) (refutation held given ∷ [])) in
    ap (λ ds. greatest ds own) whole ∙ ap (greatest ((log ++ given ∷ []) ++ refutation held given ∷ [])) (sym g.about) ∙ greatest-news (log ++ given ∷ []) (refutation held given) answered
  where
    chosen : (b : Bool) → b ≡ true → cond b (refutation held given ∷ []) [] ≡ refutation held given ∷ []
    chosen true t = refl
    chosen false t = absurd (false≢true t)

-- no other change has the text
pub same_from_change_text : (c d : Change) → change_text c ≡ change_text d → c ≡ d
same_from_change_text c d e = (change_text-prefix c d [] [] tt tt (append-nil (change_text c) ∙ e ∙ sym (append-nil (change_text d)))).0
