-- The node that would own a key next.
use Rattle.std.proofs.Common.{◌≡◌, ◌∙◌, ℕ, true, not, List, [], ◌∷◌, None, Some, ap, subst, sym}
use Rattle.std.specs.List.{slice_get}
use Rattle.std.specs.declared.cmp.Ordering.{Ordering}
use Rattle.std.specs.declared.cmp.Ordering.TheVariants.{Less}
use Rattle.change_core.specs.declared.addresses.Address.{Address}
use Rattle.change_core.specs.Ascending.{IsAscending, IsExact}
use Rattle.change_core.proofs.Order.{ascending_ascends, filter_all, not_below_itself}
use Rattle.hash_ring.specs.Consistency.{others}
use Rattle.hash_ring.specs.Points.{by_distance, distance_among, owner, owners}
use Rattle.hash_ring.specs.Servers.{addresses_of, is_same, weight_of, with_server, without}
use Rattle.hash_ring.specs.declared.servers.Server.{Server}
use Rattle.hash_ring.proofs.Consistency.{owners-without, without-with_server}
use Rattle.hash_ring.proofs.Firsts.{is_same_itself}
use Rattle.hash_ring.proofs.PointOrder.{by_exact}
use Rattle.hash_ring.proofs.Weights.{differs, without_none}

-- the second of what ascends is the first of those that are not the first
second_is : (R : Address → Address → Ordering) → IsExact R → (a : Address) (xs : List Address) → IsAscending R xs → slice_get xs 0 ≡ Some a
    → slice_get xs 1 ≡ slice_get (others a xs) 0
second_is R exact a [] up first =
    let never : None ≡ Some a = first in cc
second_is R exact a (x ∷ xs) up first =
    let found : Some x ≡ Some a = first in
    let same : x ≡ a = cc in
    let is : is_same x a ≡ true = ap (λ y. is_same y a) same ∙ is_same_itself a in
    let rest : others a xs ≡ xs =
    filter_all (λ b. not (is_same b a)) xs
    (λ b h. ap not (differs b a (λ q. not_below_itself exact x (subst (λ (y : Address). R x y ≡ Less) (q ∙ sym same) (up.0 b h))))) in
    rw is (ap (λ ys. slice_get ys 0) (sym rest))

module _ (hash : List ℕ → ℕ) (replicas : ℕ) where
  -- it owns the key once the owner is gone
  pub next_leaves : (servers : List Server) (a : Address) (key : List ℕ) → owner hash replicas servers key ≡ Some a
      → slice_get (owners hash replicas servers key) 1 ≡ owner hash replicas (without a servers) key
  next_leaves servers a key is =
      let exact = by_exact (distance_among hash replicas servers key) in
      second_is (by_distance hash replicas servers key) exact a (owners hash replicas servers key) (ascending_ascends exact (addresses_of servers)) is
      ∙ ap (λ ys. slice_get ys 0) (sym (owners-without hash replicas servers a key))

  -- it owned the key before the owner joined
  pub next_joins : (servers : List Server) (s : Server) (key : List ℕ) → weight_of s.address servers ≡ None
      → owner hash replicas (with_server s servers) key ≡ Some s.address
      → slice_get (owners hash replicas (with_server s servers) key) 1 ≡ owner hash replicas servers key
  next_joins servers s key absent is =
      next_leaves (with_server s servers) s.address key is
      ∙ ap (λ ss. owner hash replicas ss key) (without-with_server s servers ∙ without_none s.address servers absent)
