-- Points added and removed, and searched.
use Rattle.std.proofs.Common.{◌≡◌, ℕ, ◌+◌, ◌*◌, ◌^◌, ◌<◌, ◌≤◌, Bool, true, false, not, ltb, List, [], ◌∷◌, ◌++◌, take, drop, get_or, ap, sym, ◌∙◌, subst, inl, inr, arith, append_assoc, length-take, length-drop}
use Rattle.std.specs.List.{filter, flat_map}
use Rattle.std.specs.List.Sorted.{IsNonDecreasingBy, IsPartitionPoint}
use Rattle.std.proofs.lemmas.List.{get_or-take, get_or-drop}
use Rattle.std.proofs.lemmas.List.FromFn.{map-range_with_len_more}
use Rattle.std.proofs.lemmas.Bool.{cases_order, ltb-true, ltb-false}
use Rattle.change_core.specs.declared.addresses.Address.{Address}
use Rattle.change_core.specs.Address.{address_text}
use Rattle.change_core.specs.Numeral.{number_text}
use Rattle.hash_ring.specs.declared.points.Point.{Point}
use Rattle.change_core.specs.Ascending.{put, ascending, In, IsAscending}
use Rattle.hash_ring.specs.Points.{point_cmp, points_of, points_by, points, point, AreSmall}
use Rattle.hash_ring.specs.Servers.{is_same, server_cmp, without}
use Rattle.hash_ring.specs.declared.servers.Server.{Server}
use Rattle.change_core.proofs.Order.{in_append, in_append_left, in_append_right, in_put, put_new, put_old, ascending_ascends, ascending_in, in_ascending, ascending_is, ascending_same, in_filter, filter_in, filter_ascends}
use Rattle.hash_ring.proofs.Placed.{at_in, ascending_at}
use Rattle.hash_ring.proofs.PointOrder.{point_exact, server_exact, less_hash_le}
use Rattle.hash_ring.proofs.ListMembers.{in_flat_map, flat_map_in}
use Rattle.hash_ring.proofs.Walk.{in_points_of}

-- ---- a search by hash

pub hashes_rise : (ps : List Point) → IsAscending point_cmp ps → IsNonDecreasingBy (λ p. p.hash) ps
hashes_rise ps up = λ i j d le lt.
    elim (cases_order i j) [
      | inl e ↦ omega (arith, ap (λ k. (get_or ps k d).hash) e)
      | inr (inl k) ↦ less_hash_le (get_or ps i d) (get_or ps j d) (ascending_at point_exact ps i j d up k lt)
      | inr (inr k) ↦ absurd (omega arith)
    ]

module _ (from : ℕ) (ps : List Point) (i : ℕ) (parts : IsPartitionPoint (λ p. ltb p.hash from ≡ true) (λ p. ltb p.hash from ≡ false) ps i) where
  pub low_part : (p : Point) → In p (take i ps) → p.hash < from
  low_part p h =
      let m = at_in p (take i ps) h in
      let n = length-take i ps in
      let e : get_or ps m.0 p ≡ p = sym (get_or-take i ps m.0 p (omega (arith, m.1, n))) ∙ m.2 p in
      subst (λ (q : Point). q.hash < from) e (ltb-true _ _ (parts.0 m.0 p (omega arith) (omega (arith, m.1, n))))

  pub high_part : (p : Point) → In p (drop i ps) → from ≤ p.hash
  high_part p h =
      let m = at_in p (drop i ps) h in
      let n = length-drop i ps in
      let e : get_or ps (i + m.0) p ≡ p = sym (get_or-drop i ps m.0 p) ∙ m.2 p in
      subst (λ (q : Point). from ≤ q.hash) e (ltb-false _ _ (parts.1 (i + m.0) p (omega arith) (omega (arith, m.1, n))))

-- ---- the points of one server more, or less

module _ (hash : List ℕ → ℕ) (replicas : ℕ) where
  -- the points of one server more, in addition to those of the others
  pub points_merge : (a : Server) (servers : List Server) → ascending point_cmp (points hash replicas servers ++ ascending point_cmp (points_by hash replicas a)) ≡ points hash replicas (put server_cmp a servers)
  points_merge a servers =
      let f = points_by hash replicas in
      ascending_same point_exact (points hash replicas servers ++ ascending point_cmp (f a)) (flat_map f (put server_cmp a servers))
      (λ q h. elim (in_append q (points hash replicas servers) (ascending point_cmp (f a)) h) [
        | inl k ↦ let m = in_flat_map f q servers (in_ascending point_exact q (flat_map f servers) k) in flat_map_in f m.0 q (put server_cmp a servers) (put_old server_exact a m.0 servers m.1) m.2
        | inr k ↦ flat_map_in f a q (put server_cmp a servers) (put_new server_exact a servers) (in_ascending point_exact q (f a) k)
      ])
      (λ q h.
      let m = in_flat_map f q (put server_cmp a servers) h in
      elim (in_put server_exact a m.0 servers m.1) [
        | inl e ↦ in_append_right q (points hash replicas servers) (ascending point_cmp (f a)) (ascending_in point_exact q (f a) (subst (λ b. In q (f b)) e m.2))
        | inr k ↦ in_append_left q (points hash replicas servers) (ascending point_cmp (f a)) (ascending_in point_exact q (flat_map f servers) (flat_map_in f m.0 q servers k m.2))
      ])

  pub points-without : (a : Address) (servers : List Server) → filter (λ (p : Point). not (is_same p.server a)) (points hash replicas servers) ≡ points hash replicas (without a servers)
  points-without a servers =
      let f = points_by hash replicas in
      let other : Point → Bool = λ p. not (is_same p.server a) in
      ascending_is point_exact (flat_map f (without a servers)) (filter other (points hash replicas servers))
      (filter_ascends point_cmp other (points hash replicas servers) (ascending_ascends point_exact (flat_map f servers)))
      (λ q h.
      let k = in_filter other q (points hash replicas servers) h in
      let m = in_flat_map f q servers (in_ascending point_exact q (flat_map f servers) k.0) in
      let e : q.server ≡ m.0.address = ap (λ (r : Point). r.server) (in_points_of hash (replicas * m.0.weight) m.0.address q m.2).2 in
      flat_map_in f m.0 q (without a servers) (filter_in (λ (s : Server). not (is_same s.address a)) m.0 servers m.1 (ap (λ s. not (is_same s a)) (sym e) ∙ k.1)) m.2)
      (λ q h.
      let m = in_flat_map f q (without a servers) h in
      let k = in_filter (λ (s : Server). not (is_same s.address a)) m.0 servers m.1 in
      let e : q.server ≡ m.0.address = ap (λ (r : Point). r.server) (in_points_of hash (replicas * m.0.weight) m.0.address q m.2).2 in
      filter_in other q (points hash replicas servers) (ascending_in point_exact q (flat_map f servers) (flat_map_in f m.0 q servers k.0 m.2)) (ap (λ s. not (is_same s a)) e ∙ k.1))

pub filter_small : (p : Point → Bool) (ps : List Point) → AreSmall ps → AreSmall (filter p ps)
filter_small p ps small = λ q h. small q (in_filter p q ps h).0

-- one more point of a server
pub points_of_more : (hash : List ℕ → ℕ) (server : Address) (n h : ℕ) (old ps new : List Point) (text : List ℕ) → text ≡ address_text server → h ≡ hash (text ++ number_text n) → ps ≡ old ++ points_of hash n server → new ≡ ps ++ record { hash = h; server = server } ∷ [] → new ≡ old ++ points_of hash (n + 1) server
points_of_more hash server n h old ps new text t e f g =
    let more = map-range_with_len_more (λ i. record { hash = point hash server i; server = server }) 0 n n (omega arith) in
    g ∙ (λ i. f i ++ record { hash = (e ∙ ap (λ z. hash (z ++ number_text n)) t) i; server = server } ∷ [])
    ∙ (append_assoc old (points_of hash n server) (record { hash = point hash server n; server = server } ∷ []) ∙ ap (λ ps. old ++ ps) (sym more))

pub small_more : (ps : List Point) (p : Point) (new : List Point) → new ≡ ps ++ p ∷ [] → p.hash < 2 ^ 64 → AreSmall ps → AreSmall new
small_more ps p new e h small = λ q k. elim (in_append q ps (p ∷ []) (subst (In q) e k)) [
  | inl m ↦ small q m
  | inr (inl s) ↦ subst (λ (r : Point). r.hash < 2 ^ 64) (sym s) h
  | inr (inr n) ↦ absurd n
]
