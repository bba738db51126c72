-- What putting in a change makes of a member list.
use Rattle.std.proofs.Common.{◌≡◌, ℕ, Bool, true, false, List, [], ◌∷◌, ◌++◌, Option, Some, None, length, get_or, set, refl, sym, ◌∙◌, ap, subst}
use Rattle.std.proofs.Common.{◌≤◌, Result, Ok, Err, IfOk, OnErr, inl, inr, arith}
use Rattle.std.proofs.lemmas.Bool.{cases_eq}
use Rattle.std.specs.List.{insert}
use Rattle.change_core.specs.declared.changes.Change.{Change}
use Rattle.change_core.specs.Change.{Overrides}
use Rattle.change_core.specs.Members.{greatest, members, IsMemberList, IsGreatest, alters, is_news}
use Rattle.change_core.proofs.Precedence.{exceeds-true, exceeds-false}
use Rattle.change_core.proofs.Members.{IsGreatest-greatest, members-IsMemberList, IsMemberList-members}
use Rattle.change_core.proofs.News.{members-no_news, members-inserted_at, members-replaced_at, length-members_known, length-members_new}
use Rattle.member_core.specs.Places.{IsHeldAt, IsGapAt}
use Rattle.member_core.specs.Table.{IsTable}

-- the change that is held about the address
held_change : (cs : List Change) (a i : ℕ) (d : Change) → IsHeldAt cs a i → d ≡ get_or cs i d → greatest cs a ≡ Some d
held_change cs a i d h e = h.held d ∙ ap Some (sym e)

pub same_address : (cs : List Change) (a : ℕ) (d : Change) → greatest cs a ≡ Some d → d.address ≡ a
same_address cs a d e = let g : IsGreatest cs a d = IsGreatest-greatest cs a d e in g.about

-- a change that overrides the one held takes its place
pub put_altered : (cs : List Change) (c : Change) (i : ℕ) (d : Change) → IsMemberList cs → IsHeldAt cs c.address i → d ≡ get_or cs i d → Overrides c d → (true ≡ is_news cs c) × (set cs i c ≡ members (cs ++ c ∷ []))
put_altered cs c i d m h e o =
    (sym (ap (λ o. alters o c) (held_change cs c.address i d h e) ∙ exceeds-true c d o.1), sym (members-replaced_at cs i c d m h.within (subst (Overrides c) e o)))

-- any other alters nothing
pub put_kept : (cs : List Change) (c : Change) (i : ℕ) (d : Change) → IsMemberList cs → IsHeldAt cs c.address i → d ≡ get_or cs i d → (Overrides c d → ⊥) → (false ≡ is_news cs c) × (cs ≡ members (cs ++ c ∷ []))
put_kept cs c i d m h e n =
    let held : greatest cs c.address ≡ Some d = held_change cs c.address i d h e in
    let old : is_news cs c ≡ false = ap (λ o. alters o c) held ∙ exceeds-false c d (λ x. n (sym (same_address cs c.address d held), x)) in
    (sym old, sym (members-no_news cs c old ∙ members-IsMemberList cs m))

-- a change about a new address goes into its gap
pub put_new : (cs : List Change) (c : Change) (i : ℕ) → IsGapAt cs c.address i → (true ≡ is_news cs c) × (insert cs i c ≡ members (cs ++ c ∷ []))
put_new cs c i g = (sym (ap (λ o. alters o c) g.unheld), sym (members-inserted_at cs i c (g.gap c refl)))

-- a table stays one after a change that has room
pub IsTable-members : (cs : List Change) (max : ℕ) (c : Change) → IsTable cs max → ((greatest cs c.address ≡ None) × (length cs ≡ max) → ⊥) → IsTable (members (cs ++ c ∷ [])) max
IsTable-members cs max c t room = record {
  sorted = IsMemberList-members (cs ++ c ∷ []);
  fits = known (greatest cs c.address) refl;
  positive = t.positive;
  limited = t.limited;
}
  where
    whole : length (members cs) ≡ length cs
    whole = ap length (members-IsMemberList cs t.sorted)

    known : (o : Option Change) → greatest cs c.address ≡ o → length (members (cs ++ c ∷ [])) ≤ max
    known None e = elim (cases_eq (length cs) max) [
      | inl full ↦ absurd (room (e, full))
      | inr below ↦ omega (arith, t.fits, below, whole, length-members_new cs c e)
    ]
    known (Some d) e = omega (arith, t.fits, whole, length-members_known cs c d e)

-- a table stays one after an edit that puts in a change, or refuses it where it is full
pub IsTable-put : {E : Type 0} (r : Result Bool E) (refusal : E) (cs after : List Change) (max : ℕ) (c : Change) → IsTable cs max → ((greatest cs c.address ≡ None) × (length cs ≡ max) → r ≡ Err refusal) → IfOk r (λ altered. (altered ≡ is_news cs c) × (after ≡ members (cs ++ c ∷ []))) → OnErr r (after ≡ cs) → IsTable after max
IsTable-put (Ok altered) refusal cs after max c t full ok err = subst (λ ms. IsTable ms max) (sym ok.1) (IsTable-members cs max c t (λ p. let q : Ok altered ≡ Err refusal = full p in cc))
IsTable-put (Err e) refusal cs after max c t full ok err = subst (λ ms. IsTable ms max) (sym err) t
