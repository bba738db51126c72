-- Distances, owners and points, said of their members.
use Rattle.std.proofs.Common.{◌≡◌, ℕ, ◌+◌, ◌%◌, ◌^◌, ◌<◌, ◌≤◌, ◌↔◌, List, Some, get_or, ap, sym, ◌∙◌, subst, inl, inr, arith}
use Rattle.std.specs.List.{Contains, slice_get}
use Rattle.std.specs.declared.cmp.Ordering.{Ordering}
use Rattle.std.specs.declared.cmp.Ordering.TheVariants.{Less}
use Rattle.std.specs.Ordering.{nat_cmp}
use Rattle.std.proofs.lemmas.Cmp.{ranked}
use Rattle.std.proofs.lemmas.Option.{get_or_from_slice_get, slice_get_within}
use Rattle.change_core.specs.declared.addresses.Address.{Address}
use Rattle.change_core.specs.Ascending.{ascending, IsExact}
use Rattle.change_core.proofs.Order.{in_ascending, ascending_in, ascending_ascends}
use Rattle.hash_ring.specs.declared.points.Point.{Point}
use Rattle.hash_ring.specs.declared.servers.Server.{Server}
use Rattle.hash_ring.specs.Servers.{addresses_of}
use Rattle.hash_ring.specs.Points.{point_cmp, clockwise, point, distance, distance_among, owners, points, points_by, IsLeastWay, IsPointAmong, IsBefore, IsPointBefore}
use Rattle.std.specs.List.{flat_map}
use Rattle.hash_ring.proofs.FreshPoints.{in_of_contains, contains_of_in}
use Rattle.hash_ring.proofs.Placed.{ascending_at}
use Rattle.hash_ring.proofs.PointOrder.{at, by_exact, point_exact, less_split, least-le, least_is_one}
use Rattle.hash_ring.proofs.Walk.{clockwise-lt, in_points, points_in}

-- ---- distances

-- the way up to a number leads there
pub clockwise-leads : (from to : ℕ) → from < 2 ^ 64 → to < 2 ^ 64 → ((from + clockwise from to) % 2 ^ 64 ≡ to) × (clockwise from to < 2 ^ 64)
clockwise-leads from to f t = (omega arith, clockwise-lt from to)

pub IsLeastWay-distance : (hash : List ℕ → ℕ) (n : ℕ) (server : Address) (key : List ℕ) → 0 < n → IsLeastWay hash n server key (distance hash n server key)
IsLeastWay-distance hash n server key some =
    let way : ℕ → ℕ = λ i. clockwise (hash key) (point hash server i) in
    let one = least_is_one way n (λ i. clockwise-lt (hash key) (point hash server i)) some in
    record {
      index = one.0;
      counted = one.1;
      reached = one.2;
      least = λ i h. least-le way n i h;
    }

pub distance-IsLeastWay : (hash : List ℕ → ℕ) (n way : ℕ) (server : Address) (key : List ℕ) → IsLeastWay hash n server key way → way ≡ distance hash n server key
distance-IsLeastWay hash n way server key h =
    let is = IsLeastWay-distance hash n server key (omega (arith, h.counted)) in
    same way (distance hash n server key) _ _ (h.least is.index is.counted) is.reached (is.least h.index h.counted) h.reached
  where
    same : (v w x y : ℕ) → v ≤ x → w ≡ x → w ≤ y → v ≡ y → v ≡ w
    same v w x y a b c d = omega arith

-- ---- what ascends, by places

less_nat : (m n : ℕ) → nat_cmp m n ≡ Less → m < n
less_nat m n h = ranked m n Less (sym h)

point_before : (p q : Point) → point_cmp p q ≡ Less → IsPointBefore p q
point_before p q h = elim (less_split p q h) [ inl k ↦ inl k | inr k ↦ inr (k.0, less_nat p.server q.server k.1) ]

in_order : {K : Type 0} {R : K → K → Ordering} (o : IsExact R) (xs : List K) (i j : ℕ) (x y : K) → i < j → slice_get (ascending R xs) i ≡ Some x → slice_get (ascending R xs) j ≡ Some y → R x y ≡ Less
in_order {R = R} o xs i j x y l e f =
    let all = ascending R xs in
    let less = ascending_at o all i j x (ascending_ascends o xs) l (slice_get_within all j y f) in
    subst (λ z. R x z ≡ Less) (get_or_from_slice_get all j y x f) (subst (λ z. R z (get_or all j x) ≡ Less) (get_or_from_slice_get all i x x e) less)

-- ---- owners and points

module _ (hash : List ℕ → ℕ) (replicas : ℕ) (servers : List Server) where
  pub Contains-owners : (key : List ℕ) (a : Address) → Contains (owners hash replicas servers key) a ↔ Contains (addresses_of servers) a
  Contains-owners key a =
      let o = by_exact (distance_among hash replicas servers key) in (
        (λ h. contains_of_in a (addresses_of servers) (in_ascending o a (addresses_of servers) (in_of_contains a (owners hash replicas servers key) h))),
        (λ h. contains_of_in a (owners hash replicas servers key) (ascending_in o a (addresses_of servers) (in_of_contains a (addresses_of servers) h))),
      )

  pub owners-in_order : (key : List ℕ) (i j : ℕ) (a b : Address) → i < j → slice_get (owners hash replicas servers key) i ≡ Some a → slice_get (owners hash replicas servers key) j ≡ Some b → IsBefore hash replicas servers key a b
  owners-in_order key i j a b l e f =
      let number = distance_among hash replicas servers key in
      point_before (at number a) (at number b) (in_order (by_exact number) (addresses_of servers) i j a b l e f)

  pub Contains-points : (p : Point) → Contains (points hash replicas servers) p ↔ IsPointAmong hash replicas servers p
  Contains-points p = (
    (λ h. let m = in_points hash replicas servers p (in_of_contains p (points hash replicas servers) h) in
        record {
          server = m.0;
          listed = contains_of_in m.0 servers m.1;
          index = m.3.0;
          counted = m.3.1;
          its_hash = ap (λ (q : Point). q.hash) m.3.2 ∙ ap (λ a. point hash a m.3.0) m.2;
          its_server = m.2;
        }),
    (λ h. let there = points_in hash replicas servers h.server h.index (in_of_contains h.server servers h.listed) h.counted in
        subst (Contains (points hash replicas servers)) (λ i. record { hash = sym h.its_hash i; server = sym h.its_server i }) (contains_of_in _ (points hash replicas servers) there)),
  )

  pub points-in_order : (i j : ℕ) (p q : Point) → i < j → slice_get (points hash replicas servers) i ≡ Some p → slice_get (points hash replicas servers) j ≡ Some q → IsPointBefore p q
  points-in_order i j p q l e f = point_before p q (in_order point_exact (flat_map (points_by hash replicas) servers) i j p q l e f)
