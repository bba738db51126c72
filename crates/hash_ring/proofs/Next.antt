-- The nearest point above a hash, wrapping around, is the owner's.
use Rattle.std.proofs.Common.{◌≡◌, ℕ, ◌+◌, ◌*◌, ◌^◌, ◌<◌, ◌≤◌, ◌⊎◌, None, Some, Option, List, [], ◌∷◌, ◌++◌, map, take, drop, length, get_or, refl, ap, sym, ◌∙◌, subst, inl, inr, arith}
use Rattle.std.specs.List.{slice_get}
use Rattle.std.specs.Option.{option_or, IfNone, IfSome}
use Rattle.std.specs.declared.cmp.Ordering.{Ordering}
use Rattle.std.specs.declared.cmp.Ordering.TheVariants.{Less, Equal, Greater}
use Rattle.std.specs.Ordering.{nat_cmp, ord_min}
use Rattle.std.proofs.lemmas.List.{append-nil, take_more, take-append-drop}
use Rattle.std.proofs.lemmas.Bool.{cases_order}
use Rattle.change_core.specs.declared.addresses.Address.{Address}
use Rattle.change_core.specs.Ascending.{ascending, In, IsAscending, IsExact}
use Rattle.change_core.proofs.Order.{not_both, above, in_append, in_append_left, in_append_right, in_ascending, ascending_in, ascending_ascends}
use Rattle.hash_ring.specs.declared.points.Point.{Point}
use Rattle.hash_ring.specs.declared.servers.Server.{Server}
use Rattle.hash_ring.specs.Points.{clockwise, point, point_cmp, points, distance_among, owner, owners, AreSmall}
use Rattle.hash_ring.specs.RingModel.{IsRing}
use Rattle.hash_ring.specs.Servers.{addresses_of, shares}
use Rattle.hash_ring.specs.Steps.{turn, IsNear, IsNext, IsBelow, IsFrom}
use Rattle.hash_ring.proofs.ListMembers.{map_in}
use Rattle.hash_ring.proofs.Placed.{in_at}
use Rattle.hash_ring.proofs.PointOrder.{by, by_exact, point_exact, less_split, less_by_hash, less_by_server, least-le}
use Rattle.hash_ring.proofs.Walk.{point_at, points_in, turned_ascends, nearest_point, points_are}
use Rattle.hash_ring.proofs.Weights.{positive_product}

-- ---- the first around of points that ascend

-- a turned point is no farther than others
abbrev pub IsLow : Point → Point → Type 0
IsLow p q = (p ≡ q) ⊎ (point_cmp p q ≡ Less)

head_low : (h : ℕ) (xs : List Point) (p : Point) → IsAscending point_cmp (map (turn h) xs) → slice_get xs 0 ≡ Some p → In p xs × ((q : Point) → In q xs → IsNear h p q)
head_low h [] p up e = cc e
head_low h (x ∷ xs) p up e =
    let same : x ≡ p = cc e in (
      inl (sym same),
      λ q k. elim k [
        | inl r ↦ inl (ap (turn h) (sym same ∙ sym r))
        | inr m ↦ inr (subst (λ z. point_cmp (turn h z) (turn h q) ≡ Less) same (up.0 (turn h q) (map_in (turn h) q xs m)))
      ],
    )

module _ (h : ℕ) (small_h : h < 2 ^ 64) (ps : List Point) (up : IsAscending point_cmp ps) (small : AreSmall ps) (start : ℕ) (low : IsBelow h (take start ps)) (high : IsFrom h (drop start ps)) where
  abbrev around : List Point
  around = drop start ps ++ take start ps

  around_in : (q : Point) → In q around → In q ps
  around_in q k = subst (In q) (take-append-drop start ps) (elim (in_append q (drop start ps) (take start ps) k) [
    | inl m ↦ in_append_right q (take start ps) (drop start ps) m
    | inr m ↦ in_append_left q (take start ps) (drop start ps) m
  ])

  in_around : (q : Point) → In q ps → In q around
  in_around q k = elim (in_append q (take start ps) (drop start ps) (subst (In q) (sym (take-append-drop start ps)) k)) [
    | inl m ↦ in_append_right q (drop start ps) (take start ps) m
    | inr m ↦ in_append_left q (drop start ps) (take start ps) m
  ]

  ascends_around : IsAscending point_cmp (map (turn h) around)
  ascends_around =
      turned_ascends h small_h (take start ps) (drop start ps) low
      (λ p k. (high p k, small p (around_in p (in_append_left p (drop start ps) (take start ps) k))))
      (subst (IsAscending point_cmp) (sym (take-append-drop start ps)) up)

  -- the first around, or a late one where there is none
  pub first_near : (late : List Point) (p : Point) (o : Option Point) → option_or o (slice_get late 0) ≡ Some p → o ≡ slice_get around 0 → In p (ps ++ late) × ((q : Point) → In q ps → IsNear h p q)
  first_near late p (Some x) e f =
      let same : x ≡ p = cc e in
      let k = head_low h around p ascends_around (sym f ∙ ap (λ (y : Point). Some y) same) in
      (in_append_left p ps late (around_in p k.0), λ q m. k.1 q (in_around q m))
  first_near late p None e f = (
    in_append_right p ps late (first_in late e),
    λ q m. absurd (no_first around q (sym f) (in_around q m)),
  )
    where
      first_in : (xs : List Point) → option_or None (slice_get xs 0) ≡ Some p → In p xs
      first_in [] e = cc e
      first_in (x ∷ xs) e = let same : x ≡ p = cc e in inl (sym same)

      no_first : (xs : List Point) (q : Point) → slice_get xs 0 ≡ None → In q xs → ⊥
      no_first [] q e m = m
      no_first (x ∷ xs) q e m = cc e

  -- where there is neither there are no points
  pub none_near : (late : List Point) (o : Option Point) → option_or o (slice_get late 0) ≡ None → o ≡ slice_get around 0 → ps ++ late ≡ []
  none_near late (Some x) e f = cc e
  none_near late None e f = empty (ps ++ late) (λ q m. elim (in_append q ps late m) [
    | inl k ↦ no_first around q (sym f) (in_around q k)
    | inr k ↦ no_late late q e k
  ])
    where
      no_first : (xs : List Point) (q : Point) → slice_get xs 0 ≡ None → In q xs → ⊥
      no_first [] q e m = m
      no_first (x ∷ xs) q e m = cc e

      no_late : (xs : List Point) (q : Point) → option_or None (slice_get xs 0) ≡ None → In q xs → ⊥
      no_late [] q e m = m
      no_late (x ∷ xs) q e m = cc e

      empty : (xs : List Point) → ((q : Point) → In q xs → ⊥) → xs ≡ []
      empty [] f = refl
      empty (x ∷ xs) f = absurd (f x (inl refl))

-- ---- the nearest of those that were seen

-- n is how one of the points stands, and none of those seen is nearer
pub record IsLeast (h : ℕ) (ps seen : List Point) (n : Point) : Type 0 where
  pub point : Point
  pub listed : In point ps
  pub turned : n ≡ turn h point
  pub least : (q : Point) → In q seen → IsLow n (turn h q)

pub least_first : (h : ℕ) (ps late : List Point) (p n : Point) → In p (ps ++ late) → ((q : Point) → In q ps → IsNear h p q) → n ≡ turn h p → IsLeast h (ps ++ late) (ps ++ []) n
least_first h ps late p n there near e = record {
  point = p;
  listed = there;
  turned = e;
  least = λ q k. subst (λ m. IsLow m (turn h q)) (sym e) (near q (subst (In q) (append-nil ps) k));
}

IsLow-trans : (a b c : Point) → IsLow a b → IsLow b c → IsLow a c
IsLow-trans a b c (inl e) k = subst (λ z. IsLow z c) (sym e) k
IsLow-trans a b c (inr l) (inl e) = inr (subst (λ z. point_cmp a z ≡ Less) e l)
IsLow-trans a b c (inr l) (inr m) = inr (point_exact.total.trans a b c l m)

-- the lesser of two
lesser : (a b : Point) → (n : Point) → n ≡ ord_min point_cmp a b → ((n ≡ a) × IsLow a b) ⊎ ((n ≡ b) × IsLow b a)
lesser a b n e = by_order (point_cmp b a) refl
  where
    by_order : (o : Ordering) → point_cmp b a ≡ o → ((n ≡ a) × IsLow a b) ⊎ ((n ≡ b) × IsLow b a)
    by_order Less f = inr (e ∙ rw f refl, inr f)
    by_order Equal f = inl (e ∙ rw f refl, inl (sym (point_exact.same b a f)))
    by_order Greater f = inl (e ∙ rw f refl, inr (above point_exact b a f))

pub least_more : (h : ℕ) (ps kept late : List Point) (i : ℕ) (x n t m : Point) → IsLeast h (ps ++ late) (kept ++ take i late) n → i < length late → x ≡ get_or late i x → t ≡ turn h x → m ≡ ord_min point_cmp n t → IsLeast h (ps ++ late) (kept ++ take (i + 1) late) m
least_more h ps kept late i x n t m last low at e f =
    let there : In x late = subst (λ y. In y late) (sym at) (in_at late i x low) in
    let more : take (i + 1) late ≡ take i late ++ x ∷ [] = take_more late i x low ∙ ap (λ y. take i late ++ y ∷ []) (sym at) in
    let seen : (q : Point) → In q (kept ++ take (i + 1) late) → In q (kept ++ take i late) ⊎ (q ≡ x) =
    λ q k. elim (in_append q kept (take (i + 1) late) k) [
      | inl j ↦ inl (in_append_left q kept (take i late) j)
      | inr j ↦ elim (in_append q (take i late) (x ∷ []) (subst (In q) more j)) [
        | inl z ↦ inl (in_append_right q kept (take i late) z)
        | inr (inl z) ↦ inr z
        | inr (inr z) ↦ absurd z
      ]
    ]
    in
    elim (lesser n t m f) [
      | inl d ↦ record {
        point = last.point;
        listed = last.listed;
        turned = d.0 ∙ last.turned;
        least = λ q k. subst (λ (z : Point). IsLow z (turn h q)) (sym d.0) (elim (seen q k) [
          | inl j ↦ last.least q j
          | inr j ↦ subst (λ z. IsLow n z) (e ∙ ap (turn h) (sym j)) d.1
        ]);
      }
      | inr d ↦ record {
        point = x;
        listed = in_append_right x ps late there;
        turned = d.0 ∙ e;
        least = λ q k. subst (λ (z : Point). IsLow z (turn h q)) (sym d.0) (elim (seen q k) [
          | inl j ↦ IsLow-trans t n (turn h q) d.1 (last.least q j)
          | inr j ↦ inl (e ∙ ap (turn h) (sym j))
        ]);
      }
    ]

-- ---- its server is the owner

first_is : {K : Type 0} {R : K → K → Ordering} (o : IsExact R) (xs ys : List K) (a : K) → ys ≡ ascending R xs → In a xs → ((b : K) → In b xs → (a ≡ b) ⊎ (R a b ≡ Less)) → slice_get ys 0 ≡ Some a
first_is o xs [] a e h f = absurd (subst (In a) (sym e) (ascending_in o a xs h))
first_is {R = R} o xs (y ∷ ys) a e h f =
    let up = subst (IsAscending R) (sym e) (ascending_ascends o xs) in
    let there : In y xs = in_ascending o y xs (subst (In y) e (inl refl)) in
    let same : y ≡ a = elim (f y there) [
      | inl q ↦ sym q
      | inr less ↦ elim (subst (In a) (sym e) (ascending_in o a xs h)) [
        | inl q ↦ sym q
        | inr m ↦ absurd (not_both o a y less (up.0 a m))
      ]
    ] in
    ap (λ z. Some z) same

module _ (hash : List ℕ → ℕ) (replicas : ℕ) (servers : List Server) (ps xs : List Point) (key : List ℕ) {spare : ℕ} (ring : IsRing hash replicas servers ps spare) where
  pub next_owner : (a : Address) (from : ℕ) → IsNext from xs a → from ≡ hash key → ((q : Point) → In q xs → In q ps) → ((q : Point) → In q ps → In q xs) → Some a ≡ owner hash replicas servers key
  next_owner a from next same f g =
      let are = points_are hash replicas servers (omega (arith, ring.replicas_fit.0)) ring.servers_fit.once ring.servers_fit.weighed in
      let count : Address → ℕ = λ b. replicas * shares b servers in
      let far : Address → ℕ = distance_among hash replicas servers key in
      let p = next.point in
      let mine = are.only p (subst (In p) ring.points_are (f p next.listed)) in
      let served : In a (addresses_of servers) = subst (λ b. In b (addresses_of servers)) (sym next.server) mine.0 in
      let here : clockwise from p.hash ≡ clockwise (hash key) (point hash p.server mine.1.0) = ap (λ n. clockwise n p.hash) same ∙ ap (λ (q : Point). clockwise (hash key) q.hash) mine.1.2 in
      let le : far p.server ≤ clockwise (hash key) (point hash p.server mine.1.0) = least-le (λ i. clockwise (hash key) (point hash p.server i)) (count p.server) mine.1.0 mine.1.1 in
      let le_a : far a ≤ clockwise from p.hash = subst (λ b. far b ≤ clockwise from p.hash) (sym next.server) (omega (arith, here, le)) in
      sym (first_is (by_exact far) (addresses_of servers) (owners hash replicas servers key) a refl served
      (λ b k.
      let best = nearest_point hash count (addresses_of servers) (points hash replicas servers) are key b k in
      let q = point_at hash b best.0 in
      let there : In q xs = g q (subst (In q) (sym ring.points_are) (are.all b best.0 k best.1)) in
      let at : clockwise from q.hash ≡ far b = ap (λ n. clockwise n q.hash) same ∙ sym best.2 in
      nearer a b p q (clockwise from p.hash) (clockwise from q.hash) far next.server refl le_a at (next.nearest q there)))
    where
      nearer : (a b : Address) (p q : Point) (m n : ℕ) (far : Address → ℕ) → a ≡ p.server → b ≡ q.server → far a ≤ m → n ≡ far b
          → IsLow (record { hash = m; server = p.server }) (record { hash = n; server = q.server })
          → (a ≡ b) ⊎ (by far a b ≡ Less)
      nearer a b p q m n far e f le at (inl same) = inl (e ∙ ap (λ (r : Point). r.server) same ∙ sym f)
      nearer a b p q m n far e f le at (inr less) =
          elim (less_split (record { hash = m; server = p.server }) (record { hash = n; server = q.server }) less) [
            | inl k ↦ inr (less_by_hash (record { hash = far a; server = a }) (record { hash = far b; server = b }) (omega (arith, k, le, at)))
            | inr k ↦ tied (cases_order (far a) (far b)) k
          ]
        where
          order : nat_cmp p.server q.server ≡ Less → nat_cmp a b ≡ Less
          order l = subst (λ z. nat_cmp z b ≡ Less) (sym e) (subst (λ z. nat_cmp p.server z ≡ Less) (sym f) l)

          tied : (far a ≡ far b) ⊎ ((far a < far b) ⊎ (far b < far a)) → (m ≡ n) × (nat_cmp p.server q.server ≡ Less) → (a ≡ b) ⊎ (by far a b ≡ Less)
          tied (inl t) k = inr (less_by_server (record { hash = far a; server = a }) (record { hash = far b; server = b }) t (order k.1))
          tied (inr (inl l)) k = inr (less_by_hash (record { hash = far a; server = a }) (record { hash = far b; server = b }) l)
          tied (inr (inr l)) k = absurd (omega (arith, l, k.0, le, at))

-- none where there are no points
pub next_nobody : (hash : List ℕ → ℕ) (replicas : ℕ) (servers : List Server) (ps xs : List Point) (key : List ℕ) {spare : ℕ} → IsRing hash replicas servers ps spare → xs ≡ [] → ((q : Point) → In q ps → In q xs) → None ≡ owner hash replicas servers key
next_nobody hash replicas [] ps xs key ring none g = refl
next_nobody hash replicas (s ∷ ss) ps xs key ring none g =
    let some = positive_product replicas s.weight (omega (arith, ring.replicas_fit.0)) (ring.servers_fit.weighed s (inl refl)) in
    let there : In (point_at hash s.address 0) ps = subst (In (point_at hash s.address 0)) (sym ring.points_are) (points_in hash replicas (s ∷ ss) s 0 (inl refl) some) in
    absurd (subst (In (point_at hash s.address 0)) none (g (point_at hash s.address 0) there))

pub next_is : (hash : List ℕ → ℕ) (replicas : ℕ) (servers : List Server) (ps xs : List Point) (key : List ℕ) {spare : ℕ} → IsRing hash replicas servers ps spare → (r : Option Address) (from : ℕ) → IfSome r (IsNext from xs) → IfNone r (xs ≡ []) → from ≡ hash key → ((q : Point) → In q xs → In q ps) → ((q : Point) → In q ps → In q xs) → r ≡ owner hash replicas servers key
next_is hash replicas servers ps xs key ring None from next nobody same f g = next_nobody hash replicas servers ps xs key ring nobody g
next_is hash replicas servers ps xs key ring (Some a) from next nobody same f g = next_owner hash replicas servers ps xs key ring a from next same f g

pub on_none : {X : Type 0} (r : Option X) {P : Type 0} → P → IfNone r P
on_none None p = p
on_none (Some x) p = tt
