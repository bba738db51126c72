-- A cluster that was parted in two heals by what its nodes take of their side and of one of the other.
use Rattle.std.proofs.Common.{◌≡◌, ◌≢◌, ◌⊎◌, ℕ, Bool, true, false, List, [], ◌∷◌, ◌++◌, refl, sym, subst, inl, inr}
use Rattle.std.proofs.lemmas.Bool.{cases_eq}
use Rattle.laws.specs.Convergence.{Nodes, IsThere, Exchange}
use Rattle.laws.specs.Partition.{IsSideSweep, AllMeet, PartitionsHeal}
use Rattle.laws.specs.Spreading.{Reaches}
use Rattle.laws.proofs.Converging.{nodes_converge, reaches-stays, reaches-taken}

-- a path through some exchanges and then through others
reaches-both : (p q r : ℕ) (es fs : List Exchange) → Reaches p es q → Reaches q fs r → Reaches p (es ++ fs) r
reaches-both p q r [] fs first second = subst (λ (c : ℕ). Reaches c fs r) (sym first) second
reaches-both p q r (e ∷ es) fs first second = elim first [
  | inl on ↦ inl (reaches-both p q r es fs on second)
  | inr taken ↦ inr (taken.0, taken.1, reaches-both e.taker q r es fs taken.2 second)
]

same-side : (x y : Bool) → (x ≡ y) ⊎ (x ≢ y)
same-side true true = inl refl
same-side true false = inr (λ e. cc)
same-side false true = inr (λ e. cc)
same-side false false = inl refl

-- there are but two sides
third-side : (x y z : Bool) → x ≢ y → z ≢ y → x ≡ z
third-side true y true x_y z_y = refl
third-side false y false x_y z_y = refl
third-side true true false x_y z_y = absurd (x_y refl)
third-side true false false x_y z_y = absurd (z_y refl)
third-side false true true x_y z_y = absurd (z_y refl)
third-side false false true x_y z_y = absurd (x_y refl)

module _ {H : Type 0} (nodes : Nodes H) (side : ℕ → Bool) (es fs : List Exchange) (sweep : IsSideSweep side nodes es) (meet : AllMeet side nodes fs) where
  on_side : (a b : ℕ) → IsThere nodes a → IsThere nodes b → side a ≡ side b → Reaches a es b
  on_side a b at_a at_b same = elim (cases_eq a b) [
    | inl is ↦ subst (λ (c : ℕ). Reaches a es c) is (reaches-stays a es)
    | inr apart ↦ reaches-taken a b es (sweep b a at_b at_a (λ k. apart (sym k)) (sym same))
  ]

  crossing : (a b : ℕ) → IsThere nodes a → IsThere nodes b → Reaches a (es ++ fs) b
  crossing a b at_a at_b = elim (same-side (side a) (side b)) [
    | inl same ↦ reaches-both a b b es fs (on_side a b at_a at_b same) (reaches-stays b fs)
    | inr other ↦
        let m = meet b at_b in
        reaches-both a m.met b es fs (on_side a m.met at_a m.there (third-side (side a) (side b) (side m.met) other m.across)) (reaches-taken m.met b fs m.taken)
  ]

pub partitions_heal : {H : Type 0} → PartitionsHeal H
partitions_heal before after side first met second met_again are run swept meet swept_again meet_again =
    nodes_converge before after ((first ++ met) ++ (second ++ met_again)) are run (λ a there. record {
      first = first ++ met;
      rest = second ++ met_again;
      parts = refl;
      gathers = λ b at_b. crossing before side first met swept meet b a at_b there;
      broadcasts = λ b at_b. crossing before side second met_again swept_again meet_again a b there at_b;
    })
