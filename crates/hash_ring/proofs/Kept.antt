-- A ring some of whose points came late.
use Rattle.std.proofs.Common.{◌≡◌, ℕ, ◌+◌, ◌-◌, ◌*◌, ◌<◌, ◌≤◌, ◌⊎◌, Bool, true, false, cond, not, min, ltb, nat_lt, List, [], ◌++◌, length, vec_len, vec_capacity, refl, ap, sym, ◌∙◌, subst, inl, inr, arith, length-append}
use Rattle.std.specs.Option.{is_some}
use Rattle.std.specs.Global.{Vec}
use Rattle.std.proofs.lemmas.Bool.{ltb-true, lt-ltb}
use Rattle.std.proofs.lemmas.List.{append-nil}
use Rattle.std.proofs.lemmas.List.FromFn.{length-map-range_with_len}
use Rattle.change_core.specs.declared.addresses.Address.{Address}
use Rattle.change_core.specs.Ascending.{put, ascending, In, IsAscending}
use Rattle.change_core.proofs.Order.{in_append, in_append_left, in_append_right, in_ascending, ascending_in, ascending_same}
use Rattle.hash_ring.specs.declared.points.Point.{Point}
use Rattle.hash_ring.specs.declared.servers.Server.{Server}
use Rattle.hash_ring.specs.Points.{point, point_cmp, points_by, points, AreSmall}
use Rattle.hash_ring.specs.RingModel.{ring_model, ring_of, IsRing, IsKept, HasRoom}
use Rattle.hash_ring.specs.Servers.{is_same, server_cmp, weight_of, weight_or_none, without}
use Rattle.hash_ring.specs.Steps.{IsTaken}
use Rattle.hash_ring.proofs.PointOrder.{point_exact}
use Rattle.hash_ring.proofs.Firsts.{test_cases}
use Rattle.hash_ring.proofs.Merge.{ascending-ascending, merge_sorted}
use Rattle.hash_ring.proofs.Named.{length-ascending}
use Rattle.hash_ring.proofs.Rings.{ring_ascends, ring_removed, ring_added, ring_is, ring_spare, fresh_apart}
use Rattle.hash_ring.proofs.Rooms.{length-filter_le, room_there}
use Rattle.hash_ring.proofs.Weights.{none_if_not_some, without_none, positive_factor}

-- ---- none is late

alone : (ps : List Point) → IsAscending point_cmp ps → ascending point_cmp (ps ++ []) ≡ ps
alone ps up = ap (ascending point_cmp) (append-nil ps) ∙ ascending-ascending point_exact ps up

module _ (hash : List ℕ → ℕ) (replicas : ℕ) (servers : List Server) where
  pub kept_settled : (all ps late : List Point) (spare space : ℕ) → IsRing hash replicas servers all spare → ps ≡ all → late ≡ [] → length ps ≤ space → IsKept hash replicas servers ps late spare space
  kept_settled all ps late spare space ring e f fits =
      let up : IsAscending point_cmp all = ring_ascends hash replicas servers all ring in
      subst (λ ls. IsKept hash replicas servers ps ls spare space) (sym f) (subst (λ qs. IsKept hash replicas servers qs [] spare space) (sym e) (record {
        ring = subst (λ qs. IsRing hash replicas servers qs spare) (sym (alone all up)) ring;
        ascends = up;
        apart = λ p h k. k;
        merges = omega (arith, fits, ap length e);
      }))

  -- more is spare
  pub kept_more : (ps late : List Point) (spare more space place : ℕ) → IsKept hash replicas servers ps late spare space → spare ≤ more → space ≤ place → IsKept hash replicas servers ps late more place
  kept_more ps late spare more space place kept le low = record {
    ring = ring_spare hash replicas servers (ascending point_cmp (ps ++ late)) spare more kept.ring le;
    ascends = kept.ascends;
    apart = kept.apart;
    merges = omega (arith, kept.merges, low);
  }

  pub kept_moved : (all : List Server) (ps qs late more : List Point) (spare space : ℕ) → IsKept hash replicas servers ps late spare space → all ≡ servers → qs ≡ ps → more ≡ late → IsKept hash replicas all qs more spare space
  kept_moved all ps qs late more spare space kept e f h =
      subst (λ ls. IsKept hash replicas all qs ls spare space) (sym h) (subst (λ zs. IsKept hash replicas all zs late spare space) (sym f) (subst (λ ss. IsKept hash replicas ss ps late spare space) (sym e) kept))

module _ (hash : List ℕ → ℕ) (replicas : ℕ) (servers : List Server) (ps late : List Point) {spare space : ℕ} (kept : IsKept hash replicas servers ps late spare space) where
  abbrev all : List Point
  all = ascending point_cmp (ps ++ late)

  -- there is room for all points
  pub all_fit : length all ≤ length ps + length (ascending point_cmp late)
  all_fit =
      let once = sym (merge_sorted point_exact ps late (ascending point_cmp late) refl) in
      omega (arith, ap length once, length-ascending point_cmp (ps ++ ascending point_cmp late), length-append ps (ascending point_cmp late))

  pub small_late : AreSmall late
  small_late p h = kept.ring.small p (ascending_in point_exact p (ps ++ late) (in_append_right p ps late h))

  pub small_points : AreSmall ps
  small_points p h = kept.ring.small p (ascending_in point_exact p (ps ++ late) (in_append_left p ps late h))

  -- all are merged
  pub kept_merged : (new none : List Point) (more place : ℕ) → new ≡ all → none ≡ [] → spare ≤ more → space ≤ place → IsKept hash replicas servers new none more place
  kept_merged new none more place e f le low =
      let fits = all_fit in
      kept_settled hash replicas servers all new none more place (ring_spare hash replicas servers all spare more kept.ring le) e f (omega (arith, ap length e, fits, kept.merges, low))

  pub merged_fewer : (new none : List Point) → new ≡ all → none ≡ [] → (length new + length none ≤ length ps + length late) × (length none ≤ length late)
  merged_fewer new none e f =
      let fits = all_fit in
      let once = length-ascending point_cmp late in
      (omega (arith, ap length e, ap length f, fits, once), omega (arith, ap length f))

  -- a server less
  pub kept_taken : (a : Address) (b : Bool) (others : List Server) (new more : List Point) (wider place : ℕ) → others ≡ without a servers → b ≡ is_some (weight_of a servers) → IsTaken a ps late b new more → spare ≤ wider → space ≤ place → IsKept hash replicas others new more wider place
  kept_taken a true others new more wider place e there taken le low =
      let fits = all_fit in
      let fewer = length-filter_le (λ (p : Point). not (is_same p.server a)) all in
      kept_settled hash replicas others new new more wider place (ring_spare hash replicas others new spare wider (ring_removed hash replicas servers all kept.ring a others new e taken.0) le) refl taken.1 (omega (arith, ap length taken.0, fewer, fits, kept.merges, low))
  kept_taken a false others new more wider place e there taken le low =
      let same = without_none a servers (none_if_not_some (weight_of a servers) (sym there)) in
      kept_more hash replicas others new more spare wider space place (kept_moved hash replicas servers others ps new late more spare space kept (e ∙ same) taken.0 taken.1) le low

  pub taken_fewer : (a : Address) (b : Bool) (new more : List Point) → IsTaken a ps late b new more → (length new + length more ≤ length ps + length late) × (length more ≤ length late)
  taken_fewer a true new more taken =
      let fits = all_fit in
      let fewer = length-filter_le (λ (p : Point). not (is_same p.server a)) all in
      let once = length-ascending point_cmp late in
      (omega (arith, ap length taken.0, ap length taken.1, fewer, fits, once), omega (arith, ap length taken.1))
  taken_fewer a false new more taken = (omega (arith, ap length taken.0, ap length taken.1), omega (arith, ap length taken.1))

  -- a server more, whose points come late
  pub kept_added : (s : Server) (others : List Server) (after : List Point) → ((t : Server) → In t servers → t.address ≡ s.address → ⊥) → 0 < s.weight → others ≡ put server_cmp s servers → after ≡ late ++ points_by hash replicas s → AreSmall after → replicas * s.weight ≤ spare → length ps + length (ascending point_cmp after) ≤ space → IsKept hash replicas others ps after spare space
  kept_added s others after absent weight e f small fit fits =
      let raw = points_by hash replicas s in
      let fresh = ascending point_cmp raw in
      let there : (z : Point) → In z after → In z late ⊎ In z raw = λ z h. in_append z late raw (subst (In z) f h) in
      let raw_in : (z : Point) → In z raw → In z after = λ z h. subst (In z) (sym f) (in_append_right z late raw h) in
      let late_in : (z : Point) → In z late → In z after = λ z h. subst (In z) (sym f) (in_append_left z late raw h) in
      let same : ascending point_cmp (ps ++ after) ≡ ascending point_cmp (all ++ fresh) = ascending_same point_exact (ps ++ after) (all ++ fresh)
      (λ z h. elim (in_append z ps after h) [
        | inl k ↦ in_append_left z all fresh (ascending_in point_exact z (ps ++ late) (in_append_left z ps late k))
        | inr k ↦ elim (there z k) [
          | inl m ↦ in_append_left z all fresh (ascending_in point_exact z (ps ++ late) (in_append_right z ps late m))
          | inr m ↦ in_append_right z all fresh (ascending_in point_exact z raw m)
        ]
      ])
      (λ z h. elim (in_append z all fresh h) [
        | inl k ↦ elim (in_append z ps late (in_ascending point_exact z (ps ++ late) k)) [
          | inl m ↦ in_append_left z ps after m
          | inr m ↦ in_append_right z ps after (late_in z m)
        ]
        | inr k ↦ in_append_right z ps after (raw_in z (in_ascending point_exact z raw k))
      ])
      in
      record {
        ring = ring_added hash replicas servers all kept.ring s others fresh (ascending point_cmp (ps ++ after)) absent weight e refl same (λ p h. small p (raw_in p (in_ascending point_exact p raw h))) fit;
        ascends = kept.ascends;
        apart = λ p h k. elim (there p k) [
          | inl m ↦ kept.apart p h m
          | inr m ↦ fresh_apart hash replicas servers all kept.ring s fresh absent refl p (ascending_in point_exact p (ps ++ late) (in_append_left p ps late h)) (ascending_in point_exact p raw m)
        ];
        merges = fits;
      }

-- ---- what contracts see

pub kept_is : {H : Type 0} (key : H) (hash : List ℕ → ℕ) (replicas : ℕ) (servers : Vec Server) (ps late : Vec Point) (others : List Server) {spare space : ℕ} → IsKept hash replicas servers.items ps.items late.items spare space → servers.items ≡ others → ring_model key replicas servers ps late ≡ ring_of key hash replicas others (ring_model key replicas servers ps late).room
kept_is key hash replicas servers ps late others kept e =
    ring_is key hash replicas servers ps late others e (kept.ring.points_are ∙ ap (points hash replicas) e)

pub kept_same : {H : Type 0} (key : H) (replicas : ℕ) (servers others : Vec Server) (ps new late more : Vec Point) → others.items ≡ servers.items → ascending point_cmp (new.items ++ more.items) ≡ ascending point_cmp (ps.items ++ late.items) →
    ring_model key replicas others new more ≡ record (ring_model key replicas servers ps late) { room = (ring_model key replicas others new more).room }
kept_same key replicas servers others ps new late more e f =
    λ i. record { hash = key; replicas = replicas; servers = e i; points = f i; room = (ring_model key replicas others new more).room }

-- ---- room

room_le : (fewer servers room space less points rest place after late spare wider : ℕ) → fewer ≤ servers → space ≤ room → less + after ≤ points + late → place ≤ rest → after ≤ late → spare ≤ wider →
    cond (ltb servers space) (min (place - points - late) (spare - late)) 0 ≤ cond (ltb fewer room) (min (rest - less - after) (wider - after)) 0
room_le fewer servers room space less points rest place after late spare wider f e l d k w =
    test_cases _ (ltb servers space)
    (λ t. let low : fewer < room = omega (arith, f, e, ltb-true servers space t) in rw (t, lt-ltb fewer room low) (omega arith))
    (λ t. rw t (omega arith))

pub room_kept : {H : Type 0} (key : H) (replicas : ℕ) (servers others : Vec Server) (ps rest late after : Vec Point) → length others.items ≤ length servers.items → vec_capacity servers ≤ vec_capacity others
    → length rest.items + length after.items ≤ length ps.items + length late.items → vec_capacity ps ≤ vec_capacity rest → length after.items ≤ length late.items → vec_capacity late ≤ vec_capacity after
    → (ring_model key replicas servers ps late).room ≤ (ring_model key replicas others rest after).room
room_kept key replicas servers others ps rest late after f e l d k w =
    room_le (vec_len others) (vec_len servers) (vec_capacity others) (vec_capacity servers) (vec_len rest) (vec_len ps) (vec_capacity rest) (vec_capacity ps) (vec_len after) (vec_len late) (vec_capacity late) (vec_capacity after)
    (omega (arith, f, others.ok.0, servers.ok.0)) e (omega (arith, l, rest.ok.0, ps.ok.0, after.ok.0, late.ok.0)) d (omega (arith, k, after.ok.0, late.ok.0)) w

-- what the condition of an addition gives, once the server's points are taken out
abbrev pub Rooms : (List ℕ → ℕ) → ℕ → Vec Server → ℕ → ℕ → Server → List Point → List Point → Type 0
Rooms hash replicas servers spare space s new more =
    (length (without s.address servers.items) < vec_capacity servers)
    × (length more + replicas * s.weight ≤ spare)
    × (replicas * s.weight ≤ spare)
    × (length new + length (ascending point_cmp (more ++ points_by hash replicas s)) ≤ space)

pub rooms : {H : Type 0} (key : H) (hash : List ℕ → ℕ) (replicas : ℕ) (servers : Vec Server) (ps late : Vec Point) (s : Server) (b : Bool) (new more : List Point) → IsKept hash replicas servers.items ps.items late.items (vec_capacity late) (vec_capacity ps) → 0 < replicas * s.weight
    → b ≡ is_some (weight_of s.address servers.items) → IsTaken s.address ps.items late.items b new more → HasRoom (ring_model key replicas servers ps late) s → Rooms hash replicas servers (vec_capacity late) (vec_capacity ps) s new more
rooms key hash replicas servers ps late s true new more kept some there taken (inl le) =
    let fits = all_fit hash replicas servers.items ps.items late.items kept in
    let k = room_there hash replicas servers.items (ascending point_cmp (ps.items ++ late.items)) kept.ring s (vec_capacity servers) (vec_capacity ps) (positive_factor replicas s.weight some) (omega (arith, servers.ok.0, servers.ok.1)) (omega (arith, fits, kept.merges)) le in
    (k.0, omega (arith, k.2, ap length taken.1), k.2, rw (taken.0, taken.1) k.1)
rooms key hash replicas servers ps late s false new more kept some there taken (inl le) =
    let none = ap weight_or_none (none_if_not_some (weight_of s.address servers.items) (sym there)) in
    let weight = positive_factor replicas s.weight some in
    absurd (omega (arith, none, le, weight))
rooms key hash replicas servers ps late s b new more kept some there taken (inr room) = by_test (nat_lt (vec_len servers) (vec_capacity servers)) refl room
  where
    by_test : (b : Bool) → ltb (vec_len servers) (vec_capacity servers) ≡ b → replicas * s.weight ≤ cond b (min (vec_capacity ps - vec_len ps - vec_len late) (vec_capacity late - vec_len late)) 0 → Rooms hash replicas servers (vec_capacity late) (vec_capacity ps) s new more
    by_test false e h = absurd (omega (arith, h, some))
    by_test true e h =
        let low = ltb-true (vec_len servers) (vec_capacity servers) e in
        let fewer = length-filter_le (λ (x : Server). not (is_same x.address s.address)) servers.items in
        let less = taken_fewer hash replicas servers.items ps.items late.items kept s.address b new more taken in
        let raw = points_by hash replicas s in
        let count : length raw ≡ replicas * s.weight = length-map-range_with_len (λ i. record { hash = point hash s.address i; server = s.address }) 0 (replicas * s.weight) in
        let once = length-ascending point_cmp (more ++ raw) in
        let sum = length-append more raw in
        (omega (arith, low, fewer, servers.ok.0), omega (arith, h, less.1, late.ok.0), omega (arith, h), omega (arith, h, less.0, count, once, sum, ps.ok.0, late.ok.0))
