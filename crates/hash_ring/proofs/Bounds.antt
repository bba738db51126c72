-- The places of points below a hash, and at or above it.
use Rattle.std.proofs.Common.{◌≡◌, ℕ, ◌+◌, ◌-◌, ◌<◌, ◌≤◌, Bool, not, ltb, Some, List, take, drop, length, get_or, ap, sym, ◌∙◌, inl, inr, arith, length-take, length-drop}
use Rattle.std.specs.List.{position}
use Rattle.std.proofs.lemmas.List.{get_or-take, get_or-drop}
use Rattle.std.proofs.lemmas.List.Quantifiers.{position-Some}
use Rattle.std.proofs.lemmas.Bool.{cases_lt, ltb-true, ltb-false, not-false, not-true}
use Rattle.change_core.specs.Ascending.{In, IsAscending}
use Rattle.hash_ring.specs.Points.{point_cmp}
use Rattle.hash_ring.specs.Steps.{IsBelow, IsFrom}
use Rattle.hash_ring.specs.declared.points.Point.{Point}
use Rattle.hash_ring.proofs.Placed.{at_in, ascending_at}
use Rattle.hash_ring.proofs.PointOrder.{point_exact, less_hash_le}

module _ (ps : List Point) where
  -- what stands before a place, and from a place on
  take_at : (q : Point) (n : ℕ) → In q (take n ps) → (k : ℕ) × (k < n) × (k < length ps) × ((d : Point) → get_or ps k d ≡ q)
  take_at q n h =
      let m = at_in q (take n ps) h in
      let l = length-take n ps in
      (m.0, omega (arith, m.1, l), omega (arith, m.1, l), λ d. sym (get_or-take n ps m.0 d (omega (arith, m.1, l))) ∙ m.2 d)

  drop_at : (q : Point) (n : ℕ) → In q (drop n ps) → (k : ℕ) × (n ≤ k) × (k < length ps) × ((d : Point) → get_or ps k d ≡ q)
  drop_at q n h =
      let m = at_in q (drop n ps) h in
      let l = length-drop n ps in
      (n + m.0, omega arith, omega (arith, m.1, l), λ d. sym (get_or-drop n ps m.0 d) ∙ m.2 d)

  module _ (up : IsAscending point_cmp ps) (h : ℕ) where
    hash_le : (i j : ℕ) (d : Point) → i ≤ j → j < length ps → (get_or ps i d).hash ≤ (get_or ps j d).hash
    hash_le i j d l k = elim (cases_lt i j) [
      | inl less ↦ less_hash_le (get_or ps i d) (get_or ps j d) (ascending_at point_exact ps i j d up less k)
      | inr same ↦ let e : i ≡ j = omega arith in omega (arith, ap (λ n. (get_or ps n d).hash) e)
    ]

-- the first point at or after a hash, among those from one place up to another
module _ (ps : List Point) (up : IsAscending point_cmp ps) (h low high steps : ℕ) (order : low ≤ high) (within : high ≤ length ps) where
  abbrev next : List Point
  next = take (high - low) (drop low ps)

  abbrev reaches : Point → Bool
  reaches p = not (ltb p.hash h)

  next_at : (k : ℕ) (d : Point) → k < high - low → get_or next k d ≡ get_or ps (low + k) d
  next_at k d l = get_or-take (high - low) (drop low ps) k d l ∙ get_or-drop low ps k d

  length-next : length next ≡ high - low
  length-next = omega (arith, length-take (high - low) (drop low ps), length-drop low ps)

  module _ (first : position reaches next ≡ Some steps) where
    -- all before it are below, where the first place looked at is below or the first of all
    pub found_low : (steps ≡ 0 → low ≡ 0) → IsBelow h (take (low + steps) ps)
    found_low start = λ q i.
        let m = take_at ps q (low + steps) i in
        let f = position-Some reaches next steps q first in
        let n = length-next in
        elim (cases_lt 0 steps) [
          | inl some ↦
              let k : steps - 1 < steps = omega (arith, some) in
              let less = ltb-true _ _ (not-false _ (f.2 (steps - 1) k)) in
              let at = next_at (steps - 1) q (omega (arith, k, f.0, n)) in
              let le = hash_le ps up h m.0 (low + (steps - 1)) q (omega (arith, m.1, some)) (omega (arith, k, f.0, n)) in
              omega (arith, le, less, ap (λ (r : Point). r.hash) at, ap (λ (r : Point). r.hash) (m.3 q))
          | inr none ↦ absurd (omega (arith, m.1, none, start (omega (arith, none))))
        ]

    -- none from it on is below
    pub found_high : IsFrom h (drop (low + steps) ps)
    found_high = λ q i.
        let m = drop_at ps q (low + steps) i in
        let f = position-Some reaches next steps q first in
        let n = length-next in
        let more = ltb-false _ _ (not-true _ f.1) in
        let at = next_at steps q (omega (arith, f.0, n)) in
        let le = hash_le ps up h (low + steps) m.0 q m.1 m.2 in
        omega (arith, le, more, ap (λ (r : Point). r.hash) at, ap (λ (r : Point). r.hash) (m.3 q))
