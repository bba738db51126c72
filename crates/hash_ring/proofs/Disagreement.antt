-- Two lists of servers that name different owners of a key.
use Rattle.std.proofs.Common.{◌≡◌, ◌≢◌, ◌⊎◌, ℕ, ◌*◌, ◌<◌, ◌≤◌, List, [], Option, Some, None, refl, ap, sym, ◌∙◌, subst, inl, inr, arith}
use Rattle.std.specs.Cmp.{nat_cmp_is}
use Rattle.std.specs.Option.{option_cmp, IfSome, IfNone}
use Rattle.std.specs.Ordering.{nat_cmp}
use Rattle.std.specs.declared.cmp.Ordering.TheVariants.{Less}
use Rattle.std.proofs.Math.Nat.{mul-le-mul_left}
use Rattle.std.proofs.lemmas.Bool.{cases_lt}
use Rattle.change_core.specs.declared.addresses.Address.{Address}
use Rattle.change_core.specs.Ascending.{In}
use Rattle.change_core.proofs.Ascends.{In-Contains, Contains-In}
use Rattle.hash_ring.specs.Points.{clockwise, point, distance, distance_among, owner, IsNearest}
use Rattle.hash_ring.specs.Servers.{addresses_of, weight_of, weight_or_none}
use Rattle.hash_ring.specs.declared.servers.Server.{Server}
use Rattle.hash_ring.proofs.Nearest.{owner_nearest, owner_nobody}
use Rattle.hash_ring.proofs.PointOrder.{least-more}
use Rattle.hash_ring.proofs.Weights.{weight_if_listed, listed_if_weight}

-- o is less than a weight, or another weight that is not
weight_cases : (w : ℕ) (o : Option ℕ) → (option_cmp nat_cmp o (Some w) ≡ Less) ⊎ ((v : ℕ) × (o ≡ Some v) × (w ≤ v))
weight_cases w None = inl refl
weight_cases w (Some v) = elim (cases_lt v w) [ inl k ↦ inl (sym (nat_cmp_is v w Less k)) | inr k ↦ inr (v, refl, k) ]

module _ (hash : List ℕ → ℕ) (replicas : ℕ) where
  -- a server with more weight is no farther from a key
  nearer : (one other : List Server) (key : List ℕ) (a : Address) (v w : ℕ) → weight_of a one ≡ Some v → weight_of a other ≡ Some w → v ≤ w
      → distance_among hash replicas other key a ≤ distance_among hash replicas one key a
  nearer one other key a v w e f h =
      let by : Option ℕ → ℕ = λ o. distance hash (replicas * weight_or_none o) a key in
      subst (λ o. by o ≤ by (weight_of a one)) (sym f)
      (subst (λ o. by (Some w) ≤ by o) (sym e)
      (least-more (λ i. clockwise (hash key) (point hash a i)) (replicas * v) (replicas * w) (mul-le-mul_left replicas h)))

  nearest : (servers : List Server) (key : List ℕ) (a : Address) → owner hash replicas servers key ≡ Some a → IsNearest hash replicas servers key a
  nearest servers key a e = subst (λ o. IfSome o (IsNearest hash replicas servers key)) e (owner_nearest hash replicas servers key (owner hash replicas servers key) refl)

  -- the owner that a list names has a weight there
  weight_of-owner : (servers : List Server) (key : List ℕ) (a : Address) → owner hash replicas servers key ≡ Some a → (w : ℕ) × (weight_of a servers ≡ Some w)
  weight_of-owner servers key a e = weight_if_listed a servers (In-Contains a (addresses_of servers) (nearest servers key a e).served)

  -- where each of two owners has no less weight in the other list, they are one
  same_owner : (one other : List Server) (key : List ℕ) (a b : Address) (v w x y : ℕ) → owner hash replicas one key ≡ Some a → owner hash replicas other key ≡ Some b
      → weight_of a one ≡ Some v → weight_of a other ≡ Some w → v ≤ w
      → weight_of b other ≡ Some x → weight_of b one ≡ Some y → x ≤ y → a ≡ b
  same_owner one other key a b v w x y e f va wa le xb yb ge =
      let here = (nearest one key a e).least b (Contains-In b (addresses_of one) (listed_if_weight b one y yb)) in
      let there = (nearest other key b f).least a (Contains-In a (addresses_of other) (listed_if_weight a other w wa)) in
      around a b _ _ _ _ here there (nearer one other key a v w va wa le) (nearer other one key b x y xb yb ge)
    where
      around : (a b m n p q : ℕ) → (m < n) ⊎ ((m ≡ n) × (a ≤ b)) → (p < q) ⊎ ((p ≡ q) × (b ≤ a)) → q ≤ m → n ≤ p → a ≡ b
      around a b m n p q (inl h) (inl k) l r = absurd (omega arith)
      around a b m n p q (inl h) (inr k) l r = absurd (omega (arith, k.0))
      around a b m n p q (inr h) (inl k) l r = absurd (omega (arith, h.0))
      around a b m n p q (inr h) (inr k) l r = omega (arith, h.1, k.1)

  -- so of two different owners one has less weight in the list that does not name it
  pub owners_differ : (one other : List Server) (key : List ℕ) (a b : Address) → owner hash replicas one key ≡ Some a → owner hash replicas other key ≡ Some b → a ≢ b
      → (option_cmp nat_cmp (weight_of a other) (weight_of a one) ≡ Less) ⊎ (option_cmp nat_cmp (weight_of b one) (weight_of b other) ≡ Less)
  owners_differ one other key a b e f apart =
      let v = weight_of-owner one key a e in
      let x = weight_of-owner other key b f in
      subst (λ o. (option_cmp nat_cmp (weight_of a other) o ≡ Less) ⊎ (option_cmp nat_cmp (weight_of b one) (weight_of b other) ≡ Less)) (sym v.1)
      (subst (λ o. (option_cmp nat_cmp (weight_of a other) (Some v.0) ≡ Less) ⊎ (option_cmp nat_cmp (weight_of b one) o ≡ Less)) (sym x.1)
      (elim (weight_cases v.0 (weight_of a other)) [
        | inl less ↦ inl less
        | inr w ↦ elim (weight_cases x.0 (weight_of b one)) [
          | inl less ↦ inr less
          | inr y ↦ absurd (apart (same_owner one other key a b v.0 w.0 x.0 y.0 e f v.1 w.1 w.2 x.1 y.1 y.2))
        ]
      ]))

  -- and where each of them has the same weight in both lists, there is one owner or none
  pub owners_agree : (one other : List Server) (key : List ℕ)
      → ((a : Address) → owner hash replicas one key ≡ Some a → weight_of a one ≡ weight_of a other)
      → ((b : Address) → owner hash replicas other key ≡ Some b → weight_of b one ≡ weight_of b other)
      → owner hash replicas one key ≡ owner hash replicas other key
  owners_agree one other key here there = by_owners (owner hash replicas one key) (owner hash replicas other key) refl refl
    where
      not_alone : (ss ts : List Server) (a : Address) → owner hash replicas ss key ≡ Some a → owner hash replicas ts key ≡ None → weight_of a ss ≡ weight_of a ts → ⊥
      not_alone ss ts a e n same =
          let w = weight_of-owner ss key a e in
          let none = subst (λ o. IfNone o (ts ≡ [])) n (owner_nobody hash replicas ts key (owner hash replicas ts key) refl) in
          subst (λ us. In a (addresses_of us)) none (listed_if_weight a ts w.0 (sym same ∙ w.1))

      by_owners : (o p : Option Address) → owner hash replicas one key ≡ o → owner hash replicas other key ≡ p → owner hash replicas one key ≡ owner hash replicas other key
      by_owners None None e f = e ∙ sym f
      by_owners (Some a) None e f = absurd (not_alone one other a e f (here a e))
      by_owners None (Some b) e f = absurd (not_alone other one b f e (sym (there b f)))
      by_owners (Some a) (Some b) e f =
          let v = weight_of-owner one key a e in
          let x = weight_of-owner other key b f in
          let one : a ≡ b = same_owner one other key a b v.0 v.0 x.0 x.0 e f v.1 (sym (here a e) ∙ v.1) (omega arith) x.1 (there b f ∙ x.1) (omega arith) in
          e ∙ ap Some one ∙ sym f
