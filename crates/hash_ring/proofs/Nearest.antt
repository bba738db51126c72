-- The first owner is the nearest server.
use Rattle.std.proofs.Common.{◌≡◌, ℕ, ◌<◌, ◌≤◌, ◌⊎◌, subst, None, List, [], ◌∷◌, Option, Some, refl, ap, sym, ◌∙◌, inl, inr, arith}
use Rattle.std.specs.List.{slice_get}
use Rattle.std.specs.Option.{IfSome, IfNone}
use Rattle.std.specs.declared.cmp.Ordering.{Ordering}
use Rattle.std.specs.declared.cmp.Ordering.TheVariants.{Less}
use Rattle.std.specs.Ordering.{ordering_then, nat_cmp}
use Rattle.change_core.specs.declared.addresses.Address.{Address}
use Rattle.change_core.specs.Ascending.{ascending, In, IsAscending, IsExact}
use Rattle.change_core.proofs.Ascends.{In-Contains, Contains-In}
use Rattle.change_core.proofs.Order.{ascending_ascends, in_ascending, ascending_in}
use Rattle.hash_ring.specs.Points.{distance_among, owners, IsNearest}
use Rattle.hash_ring.specs.declared.servers.Server.{Server}
use Rattle.hash_ring.specs.Servers.{addresses_of}
use Rattle.hash_ring.proofs.PointOrder.{by_exact, less_split, less_hash_le}

first_ascending : {K : Type 0} {R : K → K → Ordering} (o : IsExact R) (xs ys : List K) (a : K) → ys ≡ ascending R xs → slice_get ys 0 ≡ Some a → In a xs × ((b : K) → In b xs → (b ≡ a) ⊎ (R a b ≡ Less))
first_ascending o xs [] a e h = cc h
first_ascending {R = R} o xs (y ∷ ys) a e h =
    let same : y ≡ a = cc h in
    let up = subst (IsAscending R) (sym e) (ascending_ascends o xs) in (
      in_ascending o a xs (subst (In a) e (inl (sym same))),
      λ b k. elim (subst (In b) (sym e) (ascending_in o b xs k)) [ inl q ↦ inl (q ∙ same) | inr m ↦ inr (subst (λ z. R z b ≡ Less) same (up.0 b m)) ],
    )

nearer_cases : (m n a b : ℕ) → ordering_then (nat_cmp m n) (nat_cmp a b) ≡ Less → (m < n) ⊎ ((m ≡ n) × (a ≤ b))
nearer_cases m n a b h =
    elim (less_split (record { hash = m; server = a }) (record { hash = n; server = b }) h) [
      | inl k ↦ inl k
      | inr k ↦ inr (k.0, less_hash_le (record { hash = a; server = 0 }) (record { hash = b; server = 0 }) (less_by_first a b k.1))
    ]
  where
    less_by_first : (a b : ℕ) → nat_cmp a b ≡ Less → ordering_then (nat_cmp a b) (nat_cmp 0 0) ≡ Less
    less_by_first a b h = rw h

pub owner_nearest : (hash : List ℕ → ℕ) (replicas : ℕ) (servers : List Server) (key : List ℕ) (r : Option Address) → r ≡ slice_get (owners hash replicas servers key) 0 → IfSome r (IsNearest hash replicas servers key)
owner_nearest hash replicas servers key None e = tt
owner_nearest hash replicas servers key (Some a) e =
    let number : Address → ℕ = distance_among hash replicas servers key in
    let k = first_ascending (by_exact number) (addresses_of servers) (owners hash replicas servers key) a refl (sym e) in
    record {
      served = Contains-In a (addresses_of servers) k.0;
      least = λ b h. elim (k.1 b (In-Contains b (addresses_of servers) h)) [
        | inl q ↦ inr (ap number (sym q), omega (arith, q))
        | inr less ↦ nearer_cases (number a) (number b) a b less
      ];
    }

no_first : {K : Type 0} {R : K → K → Ordering} (o : IsExact R) (xs ys : List K) → ys ≡ ascending R xs → slice_get ys 0 ≡ None → xs ≡ []
no_first o [] ys e h = refl
no_first o (x ∷ xs) [] e h = absurd (subst (In x) (sym e) (ascending_in o x (x ∷ xs) (inl refl)))
no_first o (x ∷ xs) (y ∷ ys) e h = cc h

no_server : (servers : List Server) → addresses_of servers ≡ [] → servers ≡ []
no_server [] e = refl
no_server (s ∷ ss) e = cc e

pub owner_nobody : (hash : List ℕ → ℕ) (replicas : ℕ) (servers : List Server) (key : List ℕ) (r : Option Address) → r ≡ slice_get (owners hash replicas servers key) 0 → IfNone r (servers ≡ [])
owner_nobody hash replicas servers key None e =
    no_server servers (no_first (by_exact (distance_among hash replicas servers key)) (addresses_of servers) (owners hash replicas servers key) refl (sym e))
owner_nobody hash replicas servers key (Some a) e = tt
