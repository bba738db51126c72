-- The ways in which a change is judged, and when each comes.
use Rattle.std.proofs.Common.{◌≡◌, ◌≢◌, ◌↔◌, ℕ, ◌<◌, ◌≤◌, Bool, true, false, eqb, ltb, ◌&&◌, Option, Some, None, IsTrue, length, inl, inr, arith, refl, sym, ◌∙◌, ap, subst}
use Rattle.std.specs.Option.{is_none}
use Rattle.std.proofs.lemmas.Bool.{cases_Bool, eqb-true, eqb-false, ltb-true, ltb-false}
use Rattle.change_core.specs.declared.changes.Change.{Change}
use Rattle.change_core.specs.Numbers.{greatest_number}
use Rattle.change_core.specs.Status.{rank}
use Rattle.change_core.specs.Change.{exceeds}
use Rattle.change_core.specs.Members.{greatest, alters, is_news}
use Rattle.change_core.specs.Refutation.{refutation, is_refuted}
use Rattle.member_core.specs.declared.verdicts.Verdict.{Verdict}
use Rattle.member_core.specs.declared.verdicts.Verdict.TheVariants.{Old, Take, Refute, Exhausted, Full}
use Rattle.member_core.specs.Membership.{Membership, IsMembership, judged}
use Rattle.member_core.proofs.Commits.{is_news-own}

below_if_apart : (k n : ℕ) → k ≤ n → (k ≡ n → ⊥) → k < n
below_if_apart k n le apart = omega (arith, apart)

not_both : (b : Bool) → b ≡ true → b ≡ false → ⊥
not_both true t f = cc f
not_both false t f = cc t

module _ (m : Membership) (c : Change) (stands : IsMembership m.own m.members m.max) where
  -- the change calls for a refutation
  abbrev calls : Bool
  calls = is_refuted m.own.address (Some m.own) c

  -- its address is unknown, and no more members may be
  abbrev has_no_place : Bool
  has_no_place = is_none (greatest m.members c.address) && eqb (length m.members) m.max

  -- what holds in each way
  record Ways (P : Verdict → Type 0) : Type 0 where
    old : is_news m.members c ≡ false → calls ≡ false → P Old
    full : c.address ≢ m.own.address → is_news m.members c ≡ true → calls ≡ false → greatest m.members c.address ≡ None → length m.members ≡ m.max → P Full
    take : is_news m.members c ≡ true → calls ≡ false → (greatest m.members c.address ≡ None → length m.members < m.max) → P (Take c)
    refute : c.address ≡ m.own.address → calls ≡ true → c.incarnation < greatest_number → P (Refute c (refutation m.own c))
    exhausted : c.address ≡ m.own.address → calls ≡ true → greatest_number ≤ c.incarnation → P Exhausted

  no_place : (o : Option Change) (b : Bool) → (is_none o && b) ≡ true → (o ≡ None) × (b ≡ true)
  no_place None true h = (refl, refl)
  no_place None false h = absurd cc
  no_place (Some d) b h = absurd cc

  some_place : (o : Option Change) (b : Bool) → (is_none o && b) ≡ false → o ≡ None → b ≡ false
  some_place None b h e = h
  some_place (Some d) b h e = absurd cc

  own_known : c.address ≡ m.own.address → greatest m.members c.address ≡ None → ⊥
  own_known same none = let q : Some m.own ≡ None = sym stands.holds_itself ∙ ap (greatest m.members) (sym same) ∙ none in cc

  judged_ways : (P : Verdict → Type 0) → Ways P → P (judged m c)
  judged_ways P w = elim (cases_Bool (eqb c.address m.own.address)) [
    | inl self ↦ let same = eqb-true c.address m.own.address self in
        elim (cases_Bool (exceeds c m.own)) [
          | inl news ↦ elim (cases_Bool (eqb (rank c.status) (rank m.own.status))) [
            | inl status ↦
                let e : judged m c ≡ Take c = simp (self, news, status) in
                let n : calls ≡ false = simp (self, news, status) in
                subst P (sym e) (w.take (is_news-own m c stands same ∙ news) n (λ none. absurd (own_known same none)))
            | inr status ↦
                let y : calls ≡ true = simp (self, news, status) in
                elim (cases_Bool (ltb c.incarnation greatest_number)) [
                  | inl left ↦
                      let e : judged m c ≡ Refute c (refutation m.own c) = simp (self, news, status, left) in
                      subst P (sym e) (w.refute same y (ltb-true c.incarnation greatest_number left))
                  | inr none ↦
                      let e : judged m c ≡ Exhausted = simp (self, news, status, none) in
                      subst P (sym e) (w.exhausted same y (ltb-false c.incarnation greatest_number none))
                ]
          ]
          | inr old ↦
              let e : judged m c ≡ Old = simp (self, old) in
              let n : calls ≡ false = simp (self, old) in
              subst P (sym e) (w.old (is_news-own m c stands same ∙ old) n)
        ]
    | inr another ↦
        let n : calls ≡ false = simp another in
        elim (cases_Bool (is_news m.members c)) [
          | inl news ↦ elim (cases_Bool has_no_place) [
            | inl full ↦
                let e : judged m c ≡ Full = simp (another, news, full) in
                let facts = no_place (greatest m.members c.address) (eqb (length m.members) m.max) full in
                subst P (sym e) (w.full (eqb-false c.address m.own.address another) news n facts.0 (eqb-true (length m.members) m.max facts.1))
            | inr room ↦
                let e : judged m c ≡ Take c = simp (another, news, room) in
                subst P (sym e) (w.take news n (λ none. below_if_apart (length m.members) m.max stands.fits (eqb-false (length m.members) m.max (some_place (greatest m.members c.address) (eqb (length m.members) m.max) room none))))
          ]
          | inr old ↦
              let e : judged m c ≡ Old = simp (another, old) in
              subst P (sym e) (w.old old n)
        ]
  ]

  unknown_news : greatest m.members c.address ≡ None → is_news m.members c ≡ true
  unknown_news none = ap (λ o. alters o c) none

-- full: for an unknown address where no more members may be
pub judged-Full : (m : Membership) (c : Change) → IsMembership m.own m.members m.max → (judged m c ≡ Full) ↔ ((c.address ≢ m.own.address) × (greatest m.members c.address ≡ None) × (length m.members ≡ m.max))
judged-Full m c stands = judged_ways m c stands (λ v. (v ≡ Full) ↔ ((c.address ≢ m.own.address) × (greatest m.members c.address ≡ None) × (length m.members ≡ m.max))) (record {
  old = λ old n. ((λ q. absurd cc), (λ f. absurd (not_both (is_news m.members c) (unknown_news m c stands f.1) old)));
  full = λ other news n none count. ((λ q. (other, none, count)), (λ f. refl));
  take = λ news n place. ((λ q. absurd cc), (λ f. absurd (omega (arith, place f.1, f.2))));
  refute = λ same y left. ((λ q. absurd cc), (λ f. absurd (f.0 same)));
  exhausted = λ same y none. ((λ q. absurd cc), (λ f. absurd (f.0 same)));
})

-- exhausted: where it calls for a refutation at the greatest incarnation
pub judged-Exhausted : (m : Membership) (c : Change) → IsMembership m.own m.members m.max → c.incarnation ≤ greatest_number → (judged m c ≡ Exhausted) ↔ (IsTrue (is_refuted m.own.address (Some m.own) c) × (c.incarnation ≡ greatest_number))
judged-Exhausted m c stands bound = judged_ways m c stands (λ v. (v ≡ Exhausted) ↔ (IsTrue (is_refuted m.own.address (Some m.own) c) × (c.incarnation ≡ greatest_number))) (record {
  old = λ old n. ((λ q. absurd cc), (λ f. absurd (not_both _ f.0 n)));
  full = λ other news n none count. ((λ q. absurd cc), (λ f. absurd (not_both _ f.0 n)));
  take = λ news n place. ((λ q. absurd cc), (λ f. absurd (not_both _ f.0 n)));
  refute = λ same y left. ((λ q. absurd cc), (λ f. absurd (omega (arith, left, f.1))));
  exhausted = λ same y none. ((λ q. (y, omega (arith, none, bound))), (λ f. refl));
})

-- refuted: where it calls for a refutation and an incarnation is left
pub judged-Refute : (m : Membership) (c given next : Change) → IsMembership m.own m.members m.max → (judged m c ≡ Refute given next) ↔ ((given ≡ c) × (next ≡ refutation m.own c) × IsTrue (is_refuted m.own.address (Some m.own) c) × (c.incarnation < greatest_number))
judged-Refute m c given next stands = judged_ways m c stands (λ v. (v ≡ Refute given next) ↔ ((given ≡ c) × (next ≡ refutation m.own c) × IsTrue (is_refuted m.own.address (Some m.own) c) × (c.incarnation < greatest_number))) (record {
  old = λ old n. ((λ q. absurd cc), (λ f. absurd (not_both _ f.2 n)));
  full = λ other news n none count. ((λ q. absurd cc), (λ f. absurd (not_both _ f.2 n)));
  take = λ news n place. ((λ q. absurd cc), (λ f. absurd (not_both _ f.2 n)));
  refute = λ same y left. ((λ q. let e : given ≡ c = cc q in let k : next ≡ refutation m.own c = cc q in (e, k, y, left)), (λ f. λ i. Refute (sym f.0 i) (sym f.1 i)));
  exhausted = λ same y none. ((λ q. absurd cc), (λ f. absurd (omega (arith, none, f.3))));
})

-- taken: news that calls for no refutation, with a place for its address
pub judged-Take : (m : Membership) (c given : Change) → IsMembership m.own m.members m.max → (judged m c ≡ Take given) ↔ ((given ≡ c) × IsTrue (is_news m.members c) × (is_refuted m.own.address (Some m.own) c ≡ false) × (greatest m.members c.address ≡ None → length m.members < m.max))
judged-Take m c given stands = judged_ways m c stands (λ v. (v ≡ Take given) ↔ ((given ≡ c) × IsTrue (is_news m.members c) × (is_refuted m.own.address (Some m.own) c ≡ false) × (greatest m.members c.address ≡ None → length m.members < m.max))) (record {
  old = λ old n. ((λ q. absurd cc), (λ f. absurd (not_both (is_news m.members c) f.1 old)));
  full = λ other news n none count. ((λ q. absurd cc), (λ f. absurd (omega (arith, f.3 none, count))));
  take = λ news n place. ((λ q. let e : given ≡ c = cc q in (e, news, n, place)), (λ f. ap Take (sym f.0)));
  refute = λ same y left. ((λ q. absurd cc), (λ f. absurd (not_both _ y f.2)));
  exhausted = λ same y none. ((λ q. absurd cc), (λ f. absurd (not_both _ y f.2)));
})
