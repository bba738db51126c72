-- Room for a server whose points are made again.
use Rattle.std.proofs.Common.{◌≡◌, ℕ, zero, suc, ◌+◌, ◌*◌, ◌<◌, ◌≤◌, Bool, true, false, not, List, [], ◌∷◌, length, refl, ap, sym, ◌∙◌, subst, inl, inr, arith}
use Rattle.std.specs.List.{filter}
use Rattle.std.specs.declared.cmp.Ordering.{Ordering}
use Rattle.std.specs.declared.cmp.Ordering.TheVariants.{Less}
use Rattle.change_core.specs.declared.addresses.Address.{Address}
use Rattle.change_core.specs.Ascending.{ascending, In, IsAscending, IsExact}
use Rattle.change_core.proofs.Order.{not_below_itself, not_both, ascending_ascends, in_ascending, filter_in, filter_ascends}
use Rattle.hash_ring.specs.declared.points.Point.{Point}
use Rattle.hash_ring.specs.declared.servers.Server.{Server}
use Rattle.hash_ring.specs.Points.{point, point_cmp, points_by, points}
use Rattle.hash_ring.specs.Servers.{is_same, without, shares}
use Rattle.hash_ring.specs.RingModel.{IsRing}
use Rattle.hash_ring.proofs.PointOrder.{point_exact}
use Rattle.hash_ring.proofs.Firsts.{same_is, is_same_itself, test_cases}
use Rattle.hash_ring.proofs.Walk.{in_points_of, points_in}
use Rattle.hash_ring.proofs.Rings.{ring_ascends}

-- ---- lengths

pub length-filter_le : {K : Type 0} (p : K → Bool) (xs : List K) → length (filter p xs) ≤ length xs
length-filter_le p [] = omega arith
length-filter_le p (x ∷ xs) =
    let rest = length-filter_le p xs in
    test_cases _ (p x) (λ t. rw t (omega (arith, rest))) (λ f. rw f (omega (arith, rest)))

pub length-filter_lt : {K : Type 0} (p : K → Bool) (t : K) (xs : List K) → In t xs → p t ≡ false → length (filter p xs) < length xs
length-filter_lt p t [] h e = absurd h
length-filter_lt p t (x ∷ xs) (inl q) e =
    let rest = length-filter_le p xs in
    rw (ap p (sym q) ∙ e) (omega (arith, rest))
length-filter_lt p t (x ∷ xs) (inr h) e =
    let rest = length-filter_lt p t xs h e in
    test_cases _ (p x) (λ s. rw s (omega (arith, rest))) (λ f. rw f (omega (arith, rest)))

pub length-filters : {K : Type 0} (p : K → Bool) (xs : List K) → length (filter (λ x. not (p x)) xs) + length (filter p xs) ≡ length xs
length-filters p [] = refl
length-filters p (x ∷ xs) =
    let rest = length-filters p xs in
    test_cases _ (p x) (λ s. rw s (omega (arith, rest))) (λ f. rw f (omega (arith, rest)))

-- what ascends is no longer than what ascends and has its members
pub length-ascending_le : {K : Type 0} {R : K → K → Ordering} (o : IsExact R) (xs ys : List K) → IsAscending R xs → IsAscending R ys → ((z : K) → In z xs → In z ys) → length xs ≤ length ys
length-ascending_le o [] ys up vp f = omega arith
length-ascending_le o (x ∷ xs) [] up vp f = absurd (f x (inl refl))
length-ascending_le {R = R} o (x ∷ xs) (y ∷ ys) up vp f =
    elim (f x (inl refl)) [
      | inl e ↦
          let rest = length-ascending_le o xs ys up.1 vp.1 (λ z h. elim (f z (inr h)) [
            | inl q ↦ absurd (not_below_itself o x (subst (λ w. R x w ≡ Less) (q ∙ sym e) (up.0 z h)))
            | inr k ↦ k
          ]) in
          omega (arith, rest)
      | inr k ↦
          let rest = length-ascending_le o xs ys up.1 vp.1 (λ z h. elim (f z (inr h)) [
            | inl q ↦ absurd (not_both o x y (subst (λ w. R x w ≡ Less) q (up.0 z h)) (vp.0 x k))
            | inr m ↦ m
          ]) in
          omega (arith, rest)
    ]

-- ---- a server that is there

mul_le : (r v w : ℕ) → v ≤ w → r * v ≤ r * w
mul_le zero v w le = omega arith
mul_le (suc r) v w le = let rest = mul_le r v w le in omega (arith, rest)

pub held : (servers : List Server) (a : Address) → 0 < shares a servers → (t : Server) × In t servers × (t.address ≡ a) × (shares a servers ≡ t.weight)
held [] a h = absurd (omega arith)
held (t ∷ ts) a h =
    test_cases _ (is_same t.address a)
    (λ e. (t, inl refl, same_is t.address a e, rw e refl))
    (λ e. let m = held ts a (rw e at h) in (m.0, inr m.1, m.2, rw e m.3))

module _ (hash : List ℕ → ℕ) (replicas : ℕ) (servers : List Server) (ps : List Point) {spare : ℕ} (ring : IsRing hash replicas servers ps spare) (s : Server) where
  -- its fewer points are among those that it has
  fresh_among : (t : Server) → In t servers → t.address ≡ s.address → s.weight ≤ t.weight → (p : Point) → In p (ascending point_cmp (points_by hash replicas s)) → In p (filter (λ (q : Point). is_same q.server s.address) ps)
  fresh_among t h e le p k =
      let m = in_points_of hash (replicas * s.weight) s.address p (in_ascending point_exact p (points_by hash replicas s) k) in
      let more : m.0 < replicas * t.weight = less_more replicas s.weight t.weight m.0 le m.1 in
      let there : In p ps = subst (In p) (sym ring.points_are) (subst (λ q. In q (points hash replicas servers)) (ap (λ a. record { hash = hash_at a m.0; server = a }) e ∙ sym m.2) (points_in hash replicas servers t m.0 h more)) in
      filter_in (λ (q : Point). is_same q.server s.address) p ps there (ap (λ (q : Point). is_same q.server s.address) m.2 ∙ is_same_itself s.address)
    where
      hash_at : Address → ℕ → ℕ
      hash_at a i = point hash a i

      less_more : (r v w i : ℕ) → v ≤ w → i < r * v → i < r * w
      less_more r v w i le l = let rest = mul_le r v w le in omega (arith, rest)

  abbrev pub HasRooms : ℕ → ℕ → Type 0
  HasRooms servers_room points_room =
      (length (without s.address servers) < servers_room)
      × (length (filter (λ (p : Point). not (is_same p.server s.address)) ps) + length (ascending point_cmp (points_by hash replicas s)) ≤ points_room)
      × (replicas * s.weight ≤ spare)

  pub room_there : (servers_room points_room : ℕ) → 0 < s.weight → length servers ≤ servers_room → length ps ≤ points_room → s.weight ≤ shares s.address servers → HasRooms servers_room points_room
  room_there servers_room points_room some low fits le =
      let m = held servers s.address (omega (arith, some, le)) in
      let t = m.0 in
      let weight : s.weight ≤ t.weight = omega (arith, le, m.3) in
      let mine : Point → Bool = λ q. is_same q.server s.address in
      let gone : is_same t.address s.address ≡ true = ap (λ a. is_same a s.address) m.2 ∙ is_same_itself s.address in
      let fewer = length-filter_lt (λ (x : Server). not (is_same x.address s.address)) t servers m.1 (ap not gone) in
      let parts = length-filters mine ps in
      let up = ring_ascends hash replicas servers ps ring in
      let new = length-ascending_le point_exact (ascending point_cmp (points_by hash replicas s)) (filter mine ps) (ascending_ascends point_exact (points_by hash replicas s)) (filter_ascends point_cmp mine ps up) (fresh_among t m.1 m.2 weight) in
      (omega (arith, fewer, low), omega (arith, parts, new, fits), mul_fits replicas s.weight t.weight spare weight (ring.fits t m.1))
    where
      mul_fits : (r v w n : ℕ) → v ≤ w → r * w ≤ n → r * v ≤ n
      mul_fits r v w n le fits = let rest = mul_le r v w le in omega (arith, rest, fits)

-- ---- fewer servers

pub fewer_servers : (a : Address) (servers others : List Server) → others ≡ without a servers → length others ≤ length servers
fewer_servers a servers others e = omega (arith, ap length e, length-filter_le (λ (s : Server). not (is_same s.address a)) servers)
