-- Changes that alter what is held, and the edit of a member list that each makes.
use Rattle.std.proofs.Common.{◌≡◌, ℕ, ◌<◌, true, false, eqb, List, [], ◌∷◌, ◌++◌, Option, Some, None, length, take, drop, get_or, suc, refl, inl, inr, sym, ◌∙◌, ap, subst, drop-cons}
use Rattle.std.proofs.Common.{◌+◌, ◌≤◌, map, arith}
use Rattle.std.specs.Bool.{Decides}
use Rattle.std.specs.List.{Contains, insert}
use Rattle.std.proofs.Math.ListN.{set, length-set}
use Rattle.std.proofs.lemmas.List.Edits.{length-insert}
use Rattle.std.proofs.lemmas.Bool.{cases_Bool, cases_order, eqb-true, eq-eqb, ne_eqb}
use Rattle.std.proofs.lemmas.List.{take-append-drop, set_split}
use Rattle.change_core.specs.declared.changes.Change.{Change}
use Rattle.change_core.specs.Change.{Exceeds, exceeds, Overrides}
use Rattle.change_core.specs.Members.{greater, greatest, members, IsMemberList, IsGreatest, IsNews, alters, is_news, address_of_change}
use Rattle.change_core.proofs.Precedence.{Exceeds-true, Exceeds-false, exceeds-true, Exceeds-split}
use Rattle.change_core.proofs.Members.{greater-None, greatest-append, unnamed-greatest, IsGreatest-greatest, greatest-members, members-same_greatest, members-inserted, members-replaced, members-append, members-old, IsMemberList-members, Contains-here, Contains-there, AllAbove-lower, AllAbove-insert}

-- the test says what the fact says
pub IsNews-true : (cs : List Change) (c : Change) → is_news cs c ≡ true → IsNews cs c
IsNews-true cs c t = record { exceeds_all = known (greatest cs c.address) refl }
  where
    known : (o : Option Change) → greatest cs c.address ≡ o → (d : Change) → Contains cs d → d.address ≡ c.address → Exceeds c d
    known None e d h s = absurd (unnamed-greatest cs c.address e d h s)
    known (Some g) e d h s =
        let i : IsGreatest cs c.address g = IsGreatest-greatest cs c.address g e in
        let x : Exceeds c g = Exceeds-true c g (simp e at t) in
        elim (Exceeds-split c d g x) [ inl p ↦ p | inr p ↦ absurd (i.highest d h s p) ]

pub is_news-true : (cs : List Change) (c : Change) → IsNews cs c → is_news cs c ≡ true
is_news-true cs c n = known (greatest cs c.address) refl
  where
    known : (o : Option Change) → greatest cs c.address ≡ o → is_news cs c ≡ true
    known None e = simp e
    known (Some g) e = let i : IsGreatest cs c.address g = IsGreatest-greatest cs c.address g e in simp e (exceeds-true c g (n.exceeds_all g i.listed i.about))

pub Decides-is_news : (cs : List Change) (c : Change) → Decides (is_news cs c) (IsNews cs c)
Decides-is_news cs c = (IsNews-true cs c, is_news-true cs c)

-- the members tell what is news to the list that they stand for
pub is_news-members : (cs : List Change) (c : Change) → is_news (members cs) c ≡ is_news cs c
is_news-members cs c = ap (λ o. alters o c) (greatest-members cs c.address)

-- what is no news alters nothing
pub members-no_news : (cs : List Change) (c : Change) → is_news cs c ≡ false → members (cs ++ c ∷ []) ≡ members cs
members-no_news cs c f = members-same_greatest (cs ++ c ∷ []) cs each
  where
    held : (o : Option Change) → alters o c ≡ false → greater o (Some c) ≡ o
    held None e = absurd cc
    held (Some d) e = simp e

    each : (a : ℕ) → greatest (cs ++ c ∷ []) a ≡ greatest cs a
    each a = greatest-append cs (c ∷ []) a ∙ elim (cases_Bool (eqb c.address a)) [
      | inl t ↦ simp t (held (greatest cs a) (subst (λ x. alters (greatest cs x) c ≡ false) (eqb-true c.address a t) f))
      | inr u ↦ simp u (greater-None (greatest cs a))
    ]

-- what is news is the greatest about its address from then on, and the others stay
pub greatest-news : (cs : List Change) (c : Change) → is_news cs c ≡ true → greatest (cs ++ c ∷ []) c.address ≡ Some c
greatest-news cs c t = greatest-append cs (c ∷ []) c.address ∙ simp (eq-eqb c.address c.address refl) (held (greatest cs c.address) t)
  where
    held : (o : Option Change) → alters o c ≡ true → greater o (Some c) ≡ Some c
    held None e = refl
    held (Some d) e = simp e

pub greatest-others : (cs : List Change) (c : Change) (a : ℕ) → (c.address ≡ a → ⊥) → greatest (cs ++ c ∷ []) a ≡ greatest cs a
greatest-others cs c a n = greatest-append cs (c ∷ []) a ∙ simp (ne_eqb c.address a n) (greater-None (greatest cs a))

-- the edits of a member list, by places

pub members-inserted_at : (cs : List Change) (i : ℕ) (c : Change) → IsMemberList (insert cs i c) → members (cs ++ c ∷ []) ≡ insert cs i c
members-inserted_at cs i c m = ap (λ ds. members (ds ++ c ∷ [])) (sym (take-append-drop i cs)) ∙ members-inserted (take i cs) (drop i cs) c m

pub members-replaced_at : (cs : List Change) (i : ℕ) (c d : Change) → IsMemberList cs → i < length cs → Overrides c (get_or cs i d) → members (cs ++ c ∷ []) ≡ set cs i c
members-replaced_at cs i c d m l o =
    let whole : take i cs ++ get_or cs i d ∷ drop (suc i) cs ≡ cs = ap (λ ds. take i cs ++ ds) (sym (drop-cons cs i d l)) ∙ take-append-drop i cs in
    ap (λ ds. members (ds ++ c ∷ [])) (sym whole) ∙ members-replaced (take i cs) (drop (suc i) cs) c (get_or cs i d) (subst IsMemberList (sym whole) m) o ∙ sym (set_split cs i c l)

-- how many members there are then

members-of_members : (cs : List Change) (c : Change) → members (cs ++ c ∷ []) ≡ members (members cs ++ c ∷ [])
members-of_members cs c = sym (members-append cs (c ∷ []))

length-known_list : (cs : List Change) (c d : Change) → IsMemberList cs → greatest cs c.address ≡ Some d → length (members (cs ++ c ∷ [])) ≡ length cs
length-known_list cs c d m e =
    let g : IsGreatest cs c.address d = IsGreatest-greatest cs c.address d e in
    elim (cases_Bool (exceeds c d)) [
      | inl t ↦ let o : Overrides c (get_or cs g.listed.0 d) = subst (Overrides c) (sym g.listed.2) (sym g.about, Exceeds-true c d t) in
          ap length (members-replaced_at cs g.listed.0 c d m g.listed.1 o) ∙ length-set cs g.listed.0 c
      | inr f ↦ ap length (members-old cs c d m e (Exceeds-false c d f))
    ]

-- where a change about a new address goes
pub gap_for : (c : Change) (ds : List Change) → IsMemberList ds → ((d : Change) → Contains ds d → d.address ≡ c.address → ⊥) → (i : ℕ) × (i ≤ length ds) × IsMemberList (insert ds i c)
gap_for c [] m n = (0, omega arith, (tt, tt))
gap_for c (d ∷ ds) m n = elim (cases_order c.address d.address) [
  | inl same ↦ absurd (n d (Contains-here d ds) (sym same))
  | inr apart ↦ elim apart [
    | inl l ↦ (0, omega arith, ((l, AllAbove-lower c.address d.address (map address_of_change ds) l m.0), m))
    | inr l ↦ let rest = gap_for c ds m.1 (λ e h. n e (Contains-there d ds e h)) in (suc rest.0, omega (arith, rest.1), (AllAbove-insert d.address ds rest.0 c m.0 l, rest.2))
  ]
]

length-new_list : (cs : List Change) (c : Change) → IsMemberList cs → greatest cs c.address ≡ None → length (members (cs ++ c ∷ [])) ≡ length cs + 1
length-new_list cs c m e =
    let gap = gap_for c cs m (λ d h s. unnamed-greatest cs c.address e d h s) in
    ap length (members-inserted_at cs gap.0 c gap.2) ∙ length-insert cs gap.0 c gap.1

pub length-members_known : (cs : List Change) (c d : Change) → greatest cs c.address ≡ Some d → length (members (cs ++ c ∷ [])) ≡ length (members cs)
length-members_known cs c d e = ap length (members-of_members cs c) ∙ length-known_list (members cs) c d (IsMemberList-members cs) (greatest-members cs c.address ∙ e)

pub length-members_new : (cs : List Change) (c : Change) → greatest cs c.address ≡ None → length (members (cs ++ c ∷ [])) ≡ length (members cs) + 1
length-members_new cs c e = ap length (members-of_members cs c) ∙ length-new_list (members cs) c (IsMemberList-members cs) (greatest-members cs c.address ∙ e)
