-- What a verdict says of a given change, in the words of the node.
use Rattle.std.proofs.Common.{◌≡◌, ℕ, ◌&&◌, Bool, true, false, not, cond, eqb, ltb, List, [], ◌∷◌, length, Option, Some, None, refl, sym, ◌∙◌, ap, subst, inl, inr}
use Rattle.std.specs.Option.{is_none}
use Rattle.std.proofs.lemmas.Bool.{cases_Bool, eqb-true}
use Rattle.change_core.specs.declared.changes.Change.{Change}
use Rattle.change_core.specs.declared.changes.Sourced.{Sourced}
use Rattle.change_core.specs.Change.{exceeds}
use Rattle.change_core.specs.Members.{greatest, is_news, alters}
use Rattle.change_core.specs.Numbers.{greatest_number}
use Rattle.change_core.specs.Refutation.{is_refuted, refutation, refutations}
use Rattle.change_core.specs.Status.{rank}
use Rattle.member_core.specs.declared.verdicts.Verdict.{Verdict}
use Rattle.member_core.specs.declared.verdicts.Verdict.TheVariants.{Old, Take, Refute, Exhausted, Full}
use Rattle.member_core.specs.Membership.{Membership, IsMembership, judged, put_in}
use Rattle.member_core.proofs.Commits.{Alters, is_news-old, is_news-alters, is_refuted-judged, put_in-judged, refuted, refutes}
use Rattle.node_core.specs.declared.events.StopCause.{StopCause}
use Rattle.node_core.specs.declared.events.StopCause.TheVariants as cause
use Rattle.node_core.specs.declared.taking.Effect.TheVariants.{Unaltered, Applied, Refuted}
use Rattle.node_core.specs.declared.edits.Edit.TheVariants.{Judged}
use Rattle.node_core.specs.Edits.{entry_in, membership_of, MayEdit}
use Rattle.node_core.specs.Log.{one_if}
use Rattle.node_core.specs.Node.{Node, altered, asserted_by, own_change}
use Rattle.node_core.specs.Parts.{Parts, AreParts, node_of}
use Rattle.node_core.specs.Taking.{alteration, altered_by, refusal, TakesOne, StopsOne}
use Rattle.node_core.proofs.Agreed.{own_change-parts}
use Rattle.node_core.proofs.Editing.{judged-parts}

-- what a verdict refuses
abbrev pub refused_by : Verdict → Option StopCause
refused_by Old = None
refused_by (Take c) = None
refused_by (Refute given next) = None
refused_by Exhausted = Some cause.Exhausted
refused_by Full = Some cause.Full

module _ (m : Membership) (stands : IsMembership m.own m.members m.max) (c : Change) where
  abbrev refusal_of : Option Change → Option Change → Option StopCause
  refusal_of own held =
      cond (is_refuted m.own.address own c && not (ltb c.incarnation greatest_number)) (Some cause.Exhausted)
      (cond (is_none held && eqb (length m.members) m.max) (Some cause.Full) None)

  self_known : c.address ≡ m.own.address → greatest m.members c.address ≡ Some m.own
  self_known same = ap (greatest m.members) same ∙ stands.holds_itself

  refusal-self : eqb c.address m.own.address ≡ true → refusal_of (Some m.own) (Some m.own) ≡ refused_by (judged m c)
  refusal-self self = elim (cases_Bool (exceeds c m.own)) [
    | inl news ↦ elim (cases_Bool (eqb (rank c.status) (rank m.own.status))) [
      | inl same ↦ simp (self, news, same)
      | inr other ↦ elim (cases_Bool (ltb c.incarnation greatest_number)) [
        | inl left ↦ simp (self, news, other, left)
        | inr none ↦ simp (self, news, other, none)
      ]
    ]
    | inr old ↦ simp (self, old)
  ]

  -- a change about another that is old is about a known address
  known_old : (o : Option Change) → alters o c ≡ false → is_none o ≡ false
  known_old None e = cc
  known_old (Some d) e = refl

  refusal-other : eqb c.address m.own.address ≡ false → refusal_of (Some m.own) (greatest m.members c.address) ≡ refused_by (judged m c)
  refusal-other another = elim (cases_Bool (is_news m.members c)) [
    | inl news ↦ elim (cases_Bool (is_none (greatest m.members c.address) && eqb (length m.members) m.max)) [
      | inl full ↦ simp (another, news, full)
      | inr room ↦ simp (another, news, room)
    ]
    | inr old ↦ let known : is_none (greatest m.members c.address) ≡ false = known_old (greatest m.members c.address) old in simp (another, old, known)
  ]

  -- a change is refused where its verdict says so
  pub refusal-judged : refusal_of (greatest m.members m.own.address) (greatest m.members c.address) ≡ refused_by (judged m c)
  refusal-judged = ap (λ (o : Option Change). refusal_of o (greatest m.members c.address)) stands.holds_itself ∙ elim (cases_Bool (eqb c.address m.own.address)) [
    | inl self ↦ ap (refusal_of (Some m.own)) (self_known (eqb-true c.address m.own.address self)) ∙ refusal-self self
    | inr another ↦ refusal-other another
  ]

module _ {H : Type 0} (hash_of : H → List ℕ → ℕ) (p : Parts H) (parts : AreParts hash_of p) (s : Sourced) where
  abbrev m : Membership
  m = p.members

  abbrev node : Node H
  node = node_of p

  pub refusal-parts : refusal node s.change ≡ refused_by (judged m s.change)
  refusal-parts =
      ap (λ (n : ℕ). cond (is_refuted m.own.address (greatest m.members m.own.address) s.change && not (ltb s.change.incarnation greatest_number)) (Some cause.Exhausted)
      (cond (is_none (greatest m.members s.change.address) && eqb (length m.members) n) (Some cause.Full) None)) (sym parts.most)
      ∙ refusal-judged m parts.membership s.change

  called : is_refuted m.own.address (greatest m.members m.own.address) s.change ≡ refutes (judged m s.change)
  called = is_refuted-judged m s.change parts.membership

  -- an alteration by what is refuted and what is news
  by_tests : (r n : Bool) → is_refuted m.own.address (greatest m.members m.own.address) s.change ≡ r → is_news m.members s.change ≡ n
      → alteration node s ≡ cond r (Some (asserted_by m.own.address (refutation m.own s.change))) (cond n (Some s) None)
  by_tests r n e f =
      ap (λ b. cond b (Some (asserted_by m.own.address (refutation (own_change node) s.change))) (cond (is_news m.members s.change) (Some s) None)) e
      ∙ ap (λ b. cond r (Some (asserted_by m.own.address (refutation (own_change node) s.change))) (cond b (Some s) None)) f
      ∙ ap (λ (d : Change). cond r (Some (asserted_by m.own.address (refutation d s.change))) (cond n (Some s) None)) (own_change-parts hash_of p parts)

  -- an old change is taken, and does nothing
  pub takes-old : judged m s.change ≡ Old → TakesOne node s Unaltered node
  takes-old v =
      let r : is_refuted m.own.address (greatest m.members m.own.address) s.change ≡ false = called ∙ ap refutes v in
      let n : is_news m.members s.change ≡ false = is_news-old m s.change parts.membership v in
      record {
        none_refused = refusal-parts ∙ ap refused_by v;
        applied_is = ap one_if (sym n);
        refuted_is = ap one_if (sym r);
        new_is = ap (altered_by node) (sym (by_tests false false r n));
      }

  -- what is put in is the given change
  pub same-take : (d : Change) → judged m s.change ≡ Take d → d ≡ s.change
  same-take d v =
      let q : d ∷ [] ≡ s.change ∷ refutations m.own.address (greatest m.members m.own.address) s.change
      = ap put_in (sym v) ∙ put_in-judged m s.change parts.membership (subst Alters (sym v) tt) in
      cc

  -- the alteration of a change that is put in
  pub alteration-take : (d : Change) → judged m s.change ≡ Take d → alteration node s ≡ Some s
  alteration-take d v = by_tests false true (called ∙ ap refutes v) (is_news-alters m s.change parts.membership (subst Alters (sym v) tt))

  pub takes-taken : (d : Change) (new : Node H) → judged m s.change ≡ Take d → new ≡ altered node s → TakesOne node s Applied new
  takes-taken d new v e =
      let r : is_refuted m.own.address (greatest m.members m.own.address) s.change ≡ false = called ∙ ap refutes v in
      let n : is_news m.members s.change ≡ true = is_news-alters m s.change parts.membership (subst Alters (sym v) tt) in
      record {
        none_refused = refusal-parts ∙ ap refused_by v;
        applied_is = ap one_if (sym n);
        refuted_is = ap one_if (sym r);
        new_is = e ∙ ap (altered_by node) (sym (alteration-take d v));
      }

  -- what is refuted is the given change
  pub same-refute : (given next : Change) → judged m s.change ≡ Refute given next → given ≡ s.change
  same-refute given next v =
      let q : given ∷ next ∷ [] ≡ s.change ∷ refutations m.own.address (greatest m.members m.own.address) s.change
      = ap put_in (sym v) ∙ put_in-judged m s.change parts.membership (subst Alters (sym v) tt) in
      cc

  next-refute : (given next : Change) → judged m s.change ≡ Refute given next → next ≡ refutation m.own s.change
  next-refute given next v =
      (refuted m s.change next parts.membership (v ∙ ap (λ (x : Change). Refute x next) (same-refute given next v))).2

  -- the alteration of a change that is refuted
  pub alteration-refute : (given next : Change) → judged m s.change ≡ Refute given next → alteration node s ≡ Some (asserted_by next.address next)
  alteration-refute given next v =
      by_tests true true (called ∙ ap refutes v) (is_news-alters m s.change parts.membership (subst Alters (sym v) tt))
      ∙ ap (λ (x : Change). Some (asserted_by x.address x)) (sym (next-refute given next v))

  pub takes-refuted : (given next : Change) (new : Node H) → judged m s.change ≡ Refute given next → new ≡ altered node (asserted_by next.address next) → TakesOne node s Refuted new
  takes-refuted given next new v e =
      let r : is_refuted m.own.address (greatest m.members m.own.address) s.change ≡ true = called ∙ ap refutes v in
      let n : is_news m.members s.change ≡ true = is_news-alters m s.change parts.membership (subst Alters (sym v) tt) in
      record {
        none_refused = refusal-parts ∙ ap refused_by v;
        applied_is = ap one_if (sym n);
        refuted_is = ap one_if (sym r);
        new_is = e ∙ ap (altered_by node) (sym (alteration-refute given next v));
      }

  -- where there is no memory for what a change alters, nothing is
  pub stops-memory : (t : Sourced) (new : Node H) → refused_by (judged m s.change) ≡ None → alteration node s ≡ Some t → new ≡ node → StopsOne node s cause.Memory new
  stops-memory t new v a same = record { stops = (refusal-parts ∙ v, ap is_none a); same = same }

  pub stops-exhausted : judged m s.change ≡ Exhausted → StopsOne node s cause.Exhausted node
  stops-exhausted v = record { stops = refusal-parts ∙ ap refused_by v; same = refl }

  pub stops-full : judged m s.change ≡ Full → StopsOne node s cause.Full node
  stops-full v = record { stops = refusal-parts ∙ ap refused_by v; same = refl }

  -- the membership may be edited by what it says of the change
  pub may-take : (v : Verdict) (d : Change) → judged m s.change ≡ v → v ≡ Take d → MayEdit (membership_of node) (Judged v) × (entry_in (Judged v) ≡ Some s.change)
  may-take v d e f =
      let same : v ≡ Take s.change = f ∙ ap Take (same-take d (e ∙ f)) in
      subst (λ (w : Verdict). MayEdit (membership_of node) (Judged w) × (entry_in (Judged w) ≡ Some s.change)) (sym same)
      (judged-parts hash_of p parts s.change ∙ e ∙ same, refl)

  pub may-refute : (given next : Change) → judged m s.change ≡ Refute given next → MayEdit (membership_of node) (Judged (Refute given next))
  may-refute given next v =
      ap (judged (membership_of node)) (same-refute given next v) ∙ judged-parts hash_of p parts s.change ∙ v
