-- What the derived comparisons of changes answer, and that at one address it is precedence.
use Rattle.std.proofs.Common.{◌≡◌, ◌⊎◌, ◌↔◌, ℕ, ◌<◌, arith, inl, inr, sym, ◌∙◌, ap}
use Rattle.std.specs.declared.cmp.Ordering.{Ordering}
use Rattle.std.specs.declared.cmp.Ordering.TheVariants.{Less, Equal, Greater}
use Rattle.std.specs.Ordering.{nat_cmp, ordering_then}
use Rattle.std.proofs.lemmas.Bool.{cases_order, eq-eqb, ne_eqb, lt-ltb, le-ltb}
use Rattle.change_core.specs.declared.changes.Change.{Change}
use Rattle.change_core.specs.Change.{Outranks, Exceeds, Overrides}
use Rattle.change_core.specs.Order.{change_cmp}
use Rattle.change_core.specs.Status.{rank}

nat_cmp-less : (m n : ℕ) → m < n → nat_cmp m n ≡ Less
nat_cmp-less m n l = simp (lt-ltb m n l)

nat_cmp-same : (m n : ℕ) → m ≡ n → nat_cmp m n ≡ Equal
nat_cmp-same m n e = simp (le-ltb m n (omega (arith, e)), eq-eqb m n e)

less-nat_cmp : (m n : ℕ) → nat_cmp m n ≡ Less → m < n
less-nat_cmp m n e = elim (cases_order m n) [
  | inl same ↦ let q : Equal ≡ Less = sym (nat_cmp-same m n same) ∙ e in absurd cc
  | inr apart ↦ elim apart [
    | inl below ↦ below
    | inr above ↦ let q : Greater ≡ Less = sym (simp (le-ltb m n (omega (arith, above)), ne_eqb m n (λ s. omega (arith, s, above)))) ∙ e in absurd cc
  ]
]

-- the first is less, or it ties and the rest is
then_less : (m n : ℕ) (r : Ordering) → (m < n) ⊎ ((m ≡ n) × (r ≡ Less)) → ordering_then (nat_cmp m n) r ≡ Less
then_less m n r (inl l) = ap (λ o. ordering_then o r) (nat_cmp-less m n l)
then_less m n r (inr t) = ap (λ o. ordering_then o r) (nat_cmp-same m n t.0) ∙ t.1

less_then : (m n : ℕ) (r : Ordering) → ordering_then (nat_cmp m n) r ≡ Less → (m < n) ⊎ ((m ≡ n) × (r ≡ Less))
less_then m n r e = elim (cases_order m n) [
  | inl same ↦ inr (same, sym (ap (λ o. ordering_then o r) (nat_cmp-same m n same)) ∙ e)
  | inr apart ↦ elim apart [
    | inl below ↦ inl below
    | inr above ↦ let q : Greater ≡ Less = sym (simp (le-ltb m n (omega (arith, above)), ne_eqb m n (λ s. omega (arith, s, above)))) ∙ e in absurd cc
  ]
]

pub Overrides-change_cmp : (c d : Change) → c.address ≡ d.address → Overrides c d ↔ (change_cmp d c ≡ Less)
Overrides-change_cmp c d a = (to, from)
  where
    by_weight : Ordering
    by_weight = nat_cmp d.weight c.weight

    by_rank : Ordering
    by_rank = ordering_then (nat_cmp (rank d.status) (rank c.status)) by_weight

    by_incarnation : Ordering
    by_incarnation = ordering_then (nat_cmp d.incarnation c.incarnation) by_rank

    to_rank : Outranks c d → by_rank ≡ Less
    to_rank o = then_less (rank d.status) (rank c.status) by_weight (elim o as (λ _. (rank d.status < rank c.status) ⊎ ((rank d.status ≡ rank c.status) × (by_weight ≡ Less))) [ inl l ↦ inl l | inr t ↦ inr (t.0, nat_cmp-less d.weight c.weight t.1) ])

    to : Overrides c d → change_cmp d c ≡ Less
    to o = then_less d.address c.address by_incarnation (inr (sym a, then_less d.incarnation c.incarnation by_rank (elim o.1 as (λ _. (d.incarnation < c.incarnation) ⊎ ((d.incarnation ≡ c.incarnation) × (by_rank ≡ Less))) [ inl l ↦ inl l | inr t ↦ inr (t.0, to_rank t.1) ])))

    from_rank : by_rank ≡ Less → Outranks c d
    from_rank e = elim (less_then (rank d.status) (rank c.status) by_weight e) as (λ _. Outranks c d) [ inl l ↦ inl l | inr t ↦ inr (t.0, less-nat_cmp d.weight c.weight t.1) ]

    from_incarnation : by_incarnation ≡ Less → Exceeds c d
    from_incarnation e = elim (less_then d.incarnation c.incarnation by_rank e) as (λ _. Exceeds c d) [ inl l ↦ inl l | inr t ↦ inr (t.0, from_rank t.1) ]

    from : change_cmp d c ≡ Less → Overrides c d
    from e = (a, elim (less_then d.address c.address by_incarnation e) as (λ _. Exceeds c d) [ inl l ↦ absurd (omega (arith, l, a)) | inr t ↦ from_incarnation t.1 ])
