-- The members of a node are the members of its log.
use Rattle.std.proofs.Common.{◌≡◌, ℕ, ◌+◌, Bool, true, false, cond, List, [], ◌∷◌, ◌++◌, Option, Some, None, refl, sym, ◌∙◌, ap, map, subst, arith, eqb}
use Rattle.std.proofs.lemmas.Bool.{eqb-true, lt-ltb, or_left, and_parts}
use Rattle.change_core.specs.declared.changes.Change.{Change}
use Rattle.change_core.specs.declared.changes.Sourced.{Sourced}
use Rattle.change_core.specs.Change.{change_of, exceeds}
use Rattle.change_core.specs.Members.{greatest, greater, members}
use Rattle.change_core.specs.Members.{alters}
use Rattle.change_core.proofs.Members.{IsGreatest-greatest}
use Rattle.change_core.specs.Refutation.{is_refuted, refutation, refutations, log_one}
use Rattle.node_core.specs.Log.{log_given}
use Rattle.node_core.specs.Node.{Node, asserted_by, or_birth}
use Rattle.node_core.specs.Taking.{alteration, altered_by, took, took_all}
use Rattle.node_core.proofs.Greatest.{Agree, greatest-append, greatest-members, members_same}

pub agree-append : (L L' K : List Change) → Agree L L' → Agree (L ++ K) (L' ++ K)
agree-append L L' K h a = greatest-append L K a ∙ ap (λ x. greater x (greatest K a)) (h a) ∙ sym (greatest-append L' K a)

pub agree-after : (L K K' : List Change) → Agree K K' → Agree (L ++ K) (L ++ K')
agree-after L K K' h a = greatest-append L K a ∙ ap (λ x. greater (greatest L a) x) (h a) ∙ sym (greatest-append L K' a)

pub agree-log_one : (own : ℕ) (L L' : List Change) (c : Change) → Agree L L' → Agree (log_one own L c) (log_one own L' c)
agree-log_one own L L' c h a =
    agree-append L L' (c ∷ refutations own (greatest L own) c) h a ∙ ap (λ g. greatest (L' ++ c ∷ refutations own g c) a) (h own)

pub agree-log_given : (own : ℕ) (L L' : List Change) (cs : List Change) → Agree L L' → Agree (log_given own L cs) (log_given own L' cs)
agree-log_given own L L' [] h = h
agree-log_given own L L' (c ∷ cs) h = agree-log_given own (log_one own L c) (log_one own L' c) cs (agree-log_one own L L' c h)

-- the members stand for themselves
abbrev pub IsSettled : {H : Type 0} → Node H → Type 0
IsSettled node = members node.members ≡ node.members

pub members-twice : (L : List Change) → members (members L) ≡ members L
members-twice L = members_same (members L) L (greatest-members L)

greater-none : (x : Option Change) → greater x None ≡ x
greater-none None = refl
greater-none (Some c) = refl

-- a change that alters nothing adds nothing
greater-old : (x : Option Change) (c : Change) → alters x c ≡ false → greater x (Some c) ≡ x
greater-old None c h = cc
greater-old (Some d) c h = ap (λ b. Some (cond b c d)) h

agree-old : (L : List Change) (c : Change) → alters (greatest L c.address) c ≡ false → Agree (L ++ c ∷ []) L
agree-old L c h a = greatest-append L (c ∷ []) a ∙ by_address (eqb c.address a) refl
  where
    by_address : (b : Bool) → eqb c.address a ≡ b → greater (greatest L a) (cond b (greater (Some c) None) None) ≡ greatest L a
    by_address true e = greater-old (greatest L a) c (subst (λ (x : ℕ). alters (greatest L x) c ≡ false) (eqb-true c.address a e) h)
    by_address false e = greater-none (greatest L a)

-- a refuted change adds nothing to its refutation
pub exceeds-refutation : (held c : Change) → exceeds (refutation held c) c ≡ true
exceeds-refutation held c = or_left _ _ (lt-ltb c.incarnation (c.incarnation + 1) (omega arith))

agree-refuted : (held c : Change) → c.address ≡ held.address → Agree (c ∷ refutation held c ∷ []) (refutation held c ∷ [])
agree-refuted held c about a = by_address (eqb c.address a) (eqb held.address a) (ap (λ x. eqb x a) about)
  where
    by_address : (b d : Bool) → b ≡ d → cond b (greater (Some c) (cond d (Some (refutation held c)) None)) (cond d (Some (refutation held c)) None) ≡ cond d (Some (refutation held c)) None
    by_address true true e = ap (λ b. Some (cond b (refutation held c) c)) (exceeds-refutation held c)
    by_address true false e = cc
    by_address false d e = refl

module _ {H : Type 0} (node : Node H) (s : Sourced) (settled : IsSettled node) where
  plain_members : (b : Bool) → alters (greatest node.members s.change.address) s.change ≡ b → (altered_by node (cond b (Some s) None)).members ≡ members (node.members ++ s.change ∷ [])
  plain_members true e = refl
  plain_members false e = sym settled ∙ sym (members_same (node.members ++ s.change ∷ []) node.members (agree-old node.members s.change e))

  refuted_members : (held : Change) → greatest node.members node.own ≡ Some held → (b : Bool) → is_refuted node.own (Some held) s.change ≡ b
      → (altered_by node (cond b (Some (asserted_by node.own (refutation held s.change))) (cond (alters (greatest node.members s.change.address) s.change) (Some s) None))).members
      ≡ members (node.members ++ s.change ∷ cond b (refutation held s.change ∷ []) [])
  refuted_members held g true e =
      let about : s.change.address ≡ held.address = eqb-true s.change.address node.own (and_parts _ _ e).0 ∙ sym (IsGreatest-greatest node.members node.own held g).about in
      sym (members_same (node.members ++ s.change ∷ refutation held s.change ∷ []) (node.members ++ refutation held s.change ∷ [])
      (agree-after node.members (s.change ∷ refutation held s.change ∷ []) (refutation held s.change ∷ []) (agree-refuted held s.change about)))
  refuted_members held g false e = plain_members (alters (greatest node.members s.change.address) s.change) refl

  took_members_by : (g : Option Change) → greatest node.members node.own ≡ g
      → (altered_by node (cond (is_refuted node.own g s.change) (Some (asserted_by node.own (refutation (or_birth node.own g) s.change))) (cond (alters (greatest node.members s.change.address) s.change) (Some s) None))).members
      ≡ members (node.members ++ s.change ∷ refutations node.own g s.change)
  took_members_by None e = plain_members (alters (greatest node.members s.change.address) s.change) refl
  took_members_by (Some held) e = refuted_members held e (is_refuted node.own (Some held) s.change) refl

  pub took_members : (took node s).members ≡ members (log_one node.own node.members s.change)
  took_members = took_members_by (greatest node.members node.own) refl

pub altered_by-own : {H : Type 0} (node : Node H) (o : Option Sourced) → (altered_by node o).own ≡ node.own
altered_by-own node None = refl
altered_by-own node (Some s) = refl

pub settled-by : {H : Type 0} (node : Node H) (L : List Change) → node.members ≡ members L → IsSettled node
settled-by node L e = ap members e ∙ members-twice L ∙ sym e

pub took_all-own : {H : Type 0} (node : Node H) (ss : List Sourced) → (took_all node ss).own ≡ node.own
took_all-own node [] = refl
took_all-own node (s ∷ ss) = took_all-own (took node s) ss ∙ altered_by-own node (alteration node s)

pub took_all_members : {H : Type 0} (node : Node H) (ss : List Sourced) → IsSettled node → (took_all node ss).members ≡ members (log_given node.own node.members (map change_of ss))
took_all_members node [] settled = sym settled
took_all_members node (s ∷ ss) settled =
    let L = log_one node.own node.members s.change in
    let e : (took node s).members ≡ members L = took_members node s settled in
    let own : (took node s).own ≡ node.own = altered_by-own node (alteration node s) in
    took_all_members (took node s) ss (settled-by (took node s) L e)
    ∙ ap (λ o. members (log_given o (took node s).members (map change_of ss))) own
    ∙ ap (λ M. members (log_given node.own M (map change_of ss))) e
    ∙ members_same (log_given node.own (members L) (map change_of ss)) (log_given node.own L (map change_of ss)) (agree-log_given node.own (members L) L (map change_of ss) (greatest-members L))
