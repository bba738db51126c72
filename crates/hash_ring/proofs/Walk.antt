-- Walking the points from a key on, around, names the owners in order.
use Rattle.std.proofs.Common.{◌≡◌, ℕ, ◌+◌, ◌*◌, ◌-◌, ◌^◌, ◌<◌, ◌≤◌, cond, List, [], ◌∷◌, ◌++◌, map, refl, ap, sym, ◌∙◌, subst, inl, inr, arith}
use Rattle.std.specs.List.{flat_map, range_with_len}
use Rattle.std.specs.declared.cmp.Ordering.TheVariants.{Less}
use Rattle.std.proofs.lemmas.List.{map-append}
use Rattle.change_core.specs.declared.addresses.Address.{Address}
use Rattle.hash_ring.specs.Steps.{firsts, has, turn}
use Rattle.hash_ring.specs.declared.points.Point.{Point}
use Rattle.hash_ring.specs.declared.servers.Server.{Server}
use Rattle.hash_ring.specs.Servers.{address_of_server, addresses_of, shares, EachOnce}
use Rattle.hash_ring.specs.Points.{point_cmp, clockwise, point, owners, points_of, points_by, points, least}
use Rattle.hash_ring.proofs.ListMembers.{in_map, map_in, in_flat_map, flat_map_in, in_range, range_in}
use Rattle.hash_ring.proofs.Weights.{positive_product, shares_in}
use Rattle.change_core.specs.Ascending.{ascending, In, IsAscending}
use Rattle.change_core.proofs.Order.{in_append, in_append_left, in_append_right, ascends_append, ascends_prefix, ascends_back, in_ascending, ascending_in, ascending_ascends, ascending_is}
use Rattle.hash_ring.proofs.PointOrder.{by, by_exact, point_exact, less_split, less_by_hash, less_by_server, least-le, least_is_one}
use Rattle.hash_ring.proofs.Firsts.{AreNearest, firsts_ascend, in_firsts, firsts_in}

-- ---- the points of servers

module _ (hash : List ℕ → ℕ) where
  abbrev pub point_at : Address → ℕ → Point
  point_at server i = record { hash = point hash server i; server = server }

  pub in_points_of : (n : ℕ) (server : Address) (q : Point) → In q (points_of hash n server) → (i : ℕ) × (i < n) × (q ≡ point_at server i)
  in_points_of n server q h =
      let m = in_map (point_at server) q (range_with_len 0 n) h in
      (m.0, omega (arith, (in_range 0 n m.0 m.1).1), m.2)

  pub points_of_in : (n : ℕ) (server : Address) (i : ℕ) → i < n → In (point_at server i) (points_of hash n server)
  points_of_in n server i h = map_in (point_at server) i (range_with_len 0 n) (range_in 0 n i (omega arith) (omega arith))

  pub in_points : (replicas : ℕ) (servers : List Server) (q : Point) → In q (points hash replicas servers) → (s : Server) × In s servers × (q.server ≡ s.address) × ((i : ℕ) × (i < replicas * s.weight) × (q ≡ point_at q.server i))
  in_points replicas servers q h =
      let m = in_flat_map (points_by hash replicas) q servers (in_ascending point_exact q (flat_map (points_by hash replicas) servers) h) in
      let s = m.0 in
      let k = in_points_of (replicas * s.weight) s.address q m.2 in
      let e : q.server ≡ s.address = ap (λ (r : Point). r.server) k.2 in
      (s, m.1, e, (k.0, k.1, subst (λ a. q ≡ point_at a k.0) (sym e) k.2))

  pub points_in : (replicas : ℕ) (servers : List Server) (s : Server) (i : ℕ) → In s servers → i < replicas * s.weight → In (point_at s.address i) (points hash replicas servers)
  points_in replicas servers s i h k =
      ascending_in point_exact (point_at s.address i) (flat_map (points_by hash replicas) servers)
      (flat_map_in (points_by hash replicas) s (point_at s.address i) servers h (points_of_in (replicas * s.weight) s.address i k))

-- ---- points as they are met from a place on

pub clockwise-high : (from to : ℕ) → from ≤ to → to < 2 ^ 64 → clockwise from to + from ≡ to
clockwise-high from to h small = omega arith

pub clockwise-low : (from to : ℕ) → to < from → from < 2 ^ 64 → clockwise from to ≡ to + (2 ^ 64 - from)
clockwise-low from to h small = omega arith

pub clockwise-lt : (from to : ℕ) → clockwise from to < 2 ^ 64
clockwise-lt from to = omega arith

-- a map that keeps the order of the members
pub ascends_map : (f : Point → Point) (xs : List Point) → ((p q : Point) → In p xs → In q xs → point_cmp p q ≡ Less → point_cmp (f p) (f q) ≡ Less) → IsAscending point_cmp xs → IsAscending point_cmp (map f xs)
ascends_map f [] keeps up = tt
ascends_map f (x ∷ xs) keeps up = (
  (λ y h. let k = in_map f y xs h in subst (λ (z : Point). point_cmp (f x) z ≡ Less) (sym k.2) (keeps x k.0 (inl refl) (inr k.1) (up.0 k.0 k.1))),
  ascends_map f xs (λ p q h k. keeps p q (inr h) (inr k)) up.1,
)

module _ (from : ℕ) (small_from : from < 2 ^ 64) (lows highs : List Point)
    (low : (p : Point) → In p lows → p.hash < from) (high : (p : Point) → In p highs → (from ≤ p.hash) × (p.hash < 2 ^ 64)) where
  turn_high : (p q : Point) → In p highs → In q highs → point_cmp p q ≡ Less → point_cmp (turn from p) (turn from q) ≡ Less
  turn_high p q h k less =
      let hp = high p h in
      let hq = high q k in
      let cp = clockwise-high from p.hash hp.0 hp.1 in
      let cq = clockwise-high from q.hash hq.0 hq.1 in
      elim (less_split p q less) [
        | inl m ↦ less_by_hash (turn from p) (turn from q) (omega (arith, cp, cq, m))
        | inr m ↦ less_by_server (turn from p) (turn from q) (ap (clockwise from) m.0) m.1
      ]

  turn_low : (p q : Point) → In p lows → In q lows → point_cmp p q ≡ Less → point_cmp (turn from p) (turn from q) ≡ Less
  turn_low p q h k less =
      let cp = clockwise-low from p.hash (low p h) small_from in
      let cq = clockwise-low from q.hash (low q k) small_from in
      elim (less_split p q less) [
        | inl m ↦ less_by_hash (turn from p) (turn from q) (omega (arith, cp, cq, m))
        | inr m ↦ less_by_server (turn from p) (turn from q) (ap (clockwise from) m.0) m.1
      ]

  turn_across : (p q : Point) → In p highs → In q lows → point_cmp (turn from p) (turn from q) ≡ Less
  turn_across p q h k =
      let hp = high p h in
      let cp = clockwise-high from p.hash hp.0 hp.1 in
      let cq = clockwise-low from q.hash (low q k) small_from in
      less_by_hash (turn from p) (turn from q) (omega (arith, cp, cq, hp.1))

  pub turned_ascends : IsAscending point_cmp (lows ++ highs) → IsAscending point_cmp (map (turn from) (highs ++ lows))
  turned_ascends up =
      subst (IsAscending point_cmp) (sym (map-append (turn from) highs lows))
      (ascends_append point_exact (map (turn from) highs) (map (turn from) lows)
      (ascends_map (turn from) highs turn_high (ascends_back point_exact lows highs up))
      (ascends_map (turn from) lows turn_low (ascends_prefix point_exact lows highs up))
      (λ y z h k.
      let p = in_map (turn from) y highs h in
      let q = in_map (turn from) z lows k in
      subst (λ (w : Point). point_cmp w z ≡ Less) (sym p.2) (subst (λ (w : Point). point_cmp (turn from p.0) w ≡ Less) (sym q.2) (turn_across p.0 q.0 p.1 q.1))))

pub firsts-map_turn : (from : ℕ) (seen : List Address) (ps : List Point) → firsts seen (map (turn from) ps) ≡ firsts seen ps
firsts-map_turn from seen [] = refl
firsts-map_turn from seen (p ∷ ps) =
    λ i. cond (has seen p.server) (firsts-map_turn from seen ps i) (p.server ∷ firsts-map_turn from (seen ++ p.server ∷ []) ps i)

-- what the points of servers are, where each server has as many as count says
pub record ArePoints (hash : List ℕ → ℕ) (count : Address → ℕ) (servers : List Address) (ps : List Point) : Type 0 where
  pub up : IsAscending point_cmp ps
  pub some : (a : Address) → In a servers → 0 < count a
  pub only : (q : Point) → In q ps → In q.server servers × ((i : ℕ) × (i < count q.server) × (q ≡ point_at hash q.server i))
  pub all : (a : Address) (i : ℕ) → In a servers → i < count a → In (point_at hash a i) ps

module _ (hash : List ℕ → ℕ) (count : Address → ℕ) (servers : List Address) (ps : List Point) (are : ArePoints hash count servers ps) (key : List ℕ) where
  -- how far the nearest point of a server stands above the key
  abbrev pub nearest_distance : Address → ℕ
  nearest_distance a = least (λ i. clockwise (hash key) (point hash a i)) (count a)

  pub nearest_point : (a : Address) → In a servers → (i : ℕ) × (i < count a) × (nearest_distance a ≡ clockwise (hash key) (point hash a i))
  nearest_point a h = least_is_one (λ i. clockwise (hash key) (point hash a i)) (count a) (λ i. clockwise-lt (hash key) (point hash a i)) (are.some a h)

  -- a list of the servers' points, seen from the key
  turned_nearest : (xs : List Point) → ((p : Point) → In p xs → In p ps) → ((p : Point) → In p ps → In p xs) → AreNearest nearest_distance [] (map (turn (hash key)) xs)
  turned_nearest xs f g q h n =
      let m = in_map (turn (hash key)) q xs h in
      let k = are.only m.0 (f m.0 m.1) in
      let e : q.server ≡ m.0.server = ap (λ (r : Point). r.server) m.2 in
      let here : In q.server servers = subst (λ a. In a servers) (sym e) k.0 in
      let best = nearest_point q.server here in (
        subst (λ (r : Point). In r (map (turn (hash key)) xs)) (ap (λ (d : ℕ). record { hash = d; server = q.server }) (sym best.2))
            (map_in (turn (hash key)) (point_at hash q.server best.0) xs (g _ (are.all q.server best.0 here best.1))),
        subst (λ (d : ℕ). nearest_distance q.server ≤ d)
            (ap (λ (a : Address). clockwise (hash key) (point hash a k.1.0)) e ∙ (ap (λ (r : Point). clockwise (hash key) r.hash) (sym k.1.2) ∙ sym (ap (λ (r : Point). r.hash) m.2)))
            (least-le (λ i. clockwise (hash key) (point hash q.server i)) (count q.server) k.1.0 (subst (λ a. k.1.0 < count a) (sym e) k.1.1)),
      )

  -- the servers met from the key on, around, are the servers by their distance
  pub walk_nearest : (lows highs : List Point) → ps ≡ lows ++ highs → hash key < 2 ^ 64 → ((p : Point) → In p lows → p.hash < hash key) → ((p : Point) → In p highs → (hash key ≤ p.hash) × (p.hash < 2 ^ 64)) → firsts [] (highs ++ lows) ≡ ascending (by nearest_distance) servers
  walk_nearest lows highs e small low high =
      let f : (p : Point) → In p (highs ++ lows) → In p ps =
      λ p h. subst (λ qs. In p qs) (sym e) (elim (in_append p highs lows h) [ inl k ↦ in_append_right p lows highs k | inr k ↦ in_append_left p lows highs k ])
      in
      let g : (p : Point) → In p ps → In p (highs ++ lows) =
      λ p h. elim (in_append p lows highs (subst (λ qs. In p qs) e h)) [ inl k ↦ in_append_right p highs lows k | inr k ↦ in_append_left p highs lows k ]
      in
      let up = turned_ascends (hash key) small lows highs low high (subst (IsAscending point_cmp) e are.up) in
      let ordered = firsts_ascend nearest_distance [] (map (turn (hash key)) (highs ++ lows)) up (turned_nearest (highs ++ lows) f g) in
      let same = firsts-map_turn (hash key) [] (highs ++ lows) in
      ascending_is (by_exact nearest_distance) servers (firsts [] (highs ++ lows))
      (subst (IsAscending (by nearest_distance)) same ordered)
      (λ a h. let m = (in_firsts a [] (highs ++ lows) h).1 in subst (λ (b : Address). In b servers) m.2 (are.only m.0 (f m.0 m.1)).0)
      (λ a h. firsts_in [] (highs ++ lows) (point_at hash a 0) (g _ (are.all a 0 h (are.some a h))) refl)

-- each server with as many points as its weight times the replicas
pub points_are : (hash : List ℕ → ℕ) (replicas : ℕ) (servers : List Server) → 0 < replicas → EachOnce servers → ((s : Server) → In s servers → 0 < s.weight) → ArePoints hash (λ a. replicas * shares a servers) (addresses_of servers) (points hash replicas servers)
points_are hash replicas servers h once weighed = record {
  up = ascending_ascends point_exact (flat_map (points_by hash replicas) servers);
  some = λ a k.
      let m = in_map address_of_server a servers k in
      subst (λ b. 0 < replicas * shares b servers) (sym m.2) (subst (λ w. 0 < replicas * w) (sym (shares_in servers once m.0 m.1)) (positive_product replicas m.0.weight h (weighed m.0 m.1)));
  only = λ q k.
      let m = in_points hash replicas servers q k in
      let s = m.0 in
      let w : shares q.server servers ≡ s.weight = ap (λ a. shares a servers) m.2 ∙ shares_in servers once s m.1 in (
        subst (λ a. In a (addresses_of servers)) (sym m.2) (map_in address_of_server s servers m.1),
        (m.3.0, subst (λ n. m.3.0 < replicas * n) (sym w) m.3.1, m.3.2),
      );
  all = λ a i k l.
      let m = in_map address_of_server a servers k in
      let w : shares a servers ≡ m.0.weight = ap (λ b. shares b servers) m.2 ∙ shares_in servers once m.0 m.1 in
      subst (λ b. In (point_at hash b i) (points hash replicas servers)) (sym m.2) (points_in hash replicas servers m.0 i m.1 (subst (λ n. i < replicas * n) w l));
}

pub walk_owners : (hash : List ℕ → ℕ) (replicas : ℕ) (some : 0 < replicas) (servers : List Server) (once : EachOnce servers) (weighed : (s : Server) → In s servers → 0 < s.weight) (key : List ℕ) (lows highs : List Point) → points hash replicas servers ≡ lows ++ highs → hash key < 2 ^ 64 → ((p : Point) → In p lows → p.hash < hash key) → ((p : Point) → In p highs → (hash key ≤ p.hash) × (p.hash < 2 ^ 64)) → firsts [] (highs ++ lows) ≡ owners hash replicas servers key
walk_owners hash replicas some servers once weighed key =
    walk_nearest hash (λ a. replicas * shares a servers) (addresses_of servers) (points hash replicas servers) (points_are hash replicas servers some once weighed) key
