-- The servers of a list of points, each where it comes first.
use Rattle.std.proofs.Common.{◌≡◌, ℕ, ◌≤◌, Bool, true, false, ◌||◌, List, [], ◌∷◌, ◌++◌, refl, ap, sym, ◌∙◌, subst, ◌⊎◌, inl, inr, arith}
use Rattle.std.specs.declared.cmp.Ordering.TheVariants.{Less}
use Rattle.std.proofs.lemmas.Bool.{eqb-true, eq-eqb}
use Rattle.change_core.specs.declared.addresses.Address.{Address}
use Rattle.hash_ring.specs.Steps.{firsts, has}
use Rattle.hash_ring.specs.declared.points.Point.{Point}
use Rattle.hash_ring.specs.Points.{point_cmp}
use Rattle.change_core.specs.Ascending.{In, IsAscending}
use Rattle.hash_ring.specs.Servers.{is_same}
use Rattle.hash_ring.proofs.PointOrder.{by, at, less_split}

pub same_is : (a b : Address) → is_same a b ≡ true → a ≡ b
same_is a b h = eqb-true a b h

pub is_same_itself : (a : Address) → is_same a a ≡ true
is_same_itself a = eq-eqb a a refl

or_cases : (a b : Bool) → (a || b) ≡ true → (a ≡ true) ⊎ (b ≡ true)
or_cases true b h = inl refl
or_cases false b h = inr h

or_true : (a : Bool) → (a || true) ≡ true
or_true true = refl
or_true false = refl

pub has_in : (seen : List Address) (a : Address) → has seen a ≡ true → In a seen
has_in [] a h = cc h
has_in (y ∷ seen) a h =
    elim (or_cases (is_same y a) (has seen a) h) [ inl e ↦ inl (sym (same_is y a e)) | inr k ↦ inr (has_in seen a k) ]

pub in_has : (seen : List Address) (a : Address) → In a seen → has seen a ≡ true
in_has [] a h = absurd h
in_has (y ∷ seen) a (inl e) = rw (ap (λ b. is_same y b) e, is_same_itself y)
in_has (y ∷ seen) a (inr h) = rw (in_has seen a h) (or_true (is_same y a))

pub has_append : (xs ys : List Address) (a : Address) → has (xs ++ ys) a ≡ (has xs a || has ys a)
has_append [] ys a = refl
has_append (x ∷ xs) ys a = rw (has_append xs ys a) (or_assoc (is_same x a) (has xs a) (has ys a))
  where
    or_assoc : (a b c : Bool) → (a || (b || c)) ≡ ((a || b) || c)
    or_assoc true b c = refl
    or_assoc false b c = refl

false≢true : (false ≡ true) → ⊥
false≢true e = cc e

or_left_false : (a b : Bool) → (a || b) ≡ false → a ≡ false
or_left_false true b h = h
or_left_false false b h = refl

not_seen : (seen : List Address) (a b : Address) → has (seen ++ a ∷ []) b ≡ false → has seen b ≡ false
not_seen seen a b h = or_left_false (has seen b) (has (a ∷ []) b) (sym (has_append seen (a ∷ []) b) ∙ h)

not_last : (seen : List Address) (a : Address) → has (seen ++ a ∷ []) a ≡ false → ⊥
not_last seen a h = false≢true (sym h ∙ (has_append seen (a ∷ []) a ∙ rw (is_same_itself a) (or_true (has seen a))))

-- the two cases of a test
pub test_cases : (P : Type 0) (b : Bool) → (b ≡ true → P) → (b ≡ false → P) → P
test_cases P true f g = f refl
test_cases P false f g = g refl

pub firsts_seen : (seen : List Address) (p : Point) (ps : List Point) → has seen p.server ≡ true → firsts seen (p ∷ ps) ≡ firsts seen ps
firsts_seen seen p ps h = rw h

pub firsts_new : (seen : List Address) (p : Point) (ps : List Point) → has seen p.server ≡ false → firsts seen (p ∷ ps) ≡ p.server ∷ firsts (seen ++ p.server ∷ []) ps
firsts_new seen p ps h = rw h

-- each was not seen before, and has a point
pub in_firsts : (a : Address) (seen : List Address) (ps : List Point) → In a (firsts seen ps) → (has seen a ≡ false) × ((p : Point) × In p ps × (p.server ≡ a))
in_firsts a seen [] h = absurd h
in_firsts a seen (p ∷ ps) h =
    test_cases _ (has seen p.server)
    (λ s. let k = in_firsts a seen ps (subst (In a) (firsts_seen seen p ps s) h) in (k.0, (k.1.0, inr k.1.1, k.1.2)))
    (λ s. elim (subst (In a) (firsts_new seen p ps s) h) as (λ _. (has seen a ≡ false) × ((q : Point) × In q (p ∷ ps) × (q.server ≡ a))) [
      | inl e ↦ (ap (has seen) e ∙ s, (p, inl refl, sym e))
      | inr k ↦ let m = in_firsts a (seen ++ p.server ∷ []) ps k in (not_seen seen p.server a m.0, (m.1.0, inr m.1.1, m.1.2))
    ])

-- a server with a point that was not seen before is named
pub firsts_in : (seen : List Address) (ps : List Point) (q : Point) → In q ps → has seen q.server ≡ false → In q.server (firsts seen ps)
firsts_in seen [] q h n = absurd h
firsts_in seen (p ∷ ps) q (inl e) n =
    let s : has seen p.server ≡ false = ap (λ (r : Point). has seen r.server) (sym e) ∙ n in
    subst (In q.server) (sym (firsts_new seen p ps s)) (inl (ap (λ r. r.server) e))
firsts_in seen (p ∷ ps) q (inr h) n =
    test_cases _ (has seen p.server)
    (λ s. subst (In q.server) (sym (firsts_seen seen p ps s)) (firsts_in seen ps q h n))
    (λ s. subst (In q.server) (sym (firsts_new seen p ps s))
    (test_cases _ (has (seen ++ p.server ∷ []) q.server)
    (λ m. inl (in_last seen p.server q.server m n))
    (λ m. inr (firsts_in (seen ++ p.server ∷ []) ps q h m))))
  where
    or_one : (b c : Bool) → (b || c) ≡ true → b ≡ false → c ≡ true
    or_one true c h n = cc n
    or_one false c h n = h

    or_none : (b : Bool) → (b || false) ≡ true → b ≡ true
    or_none true h = refl
    or_none false h = h

    in_last : (seen : List Address) (a b : Address) → has (seen ++ a ∷ []) b ≡ true → has seen b ≡ false → b ≡ a
    in_last seen a b m n = sym (same_is a b (or_none _ (or_one (has seen b) (has (a ∷ []) b) (sym (has_append seen (a ∷ []) b) ∙ m) n)))

-- each point of a server not yet seen stands at or after the server's number, at which it has a point
abbrev pub AreNearest : (Address → ℕ) → List Address → List Point → Type 0
AreNearest number seen ps = (q : Point) → In q ps → has seen q.server ≡ false → In (at number q.server) ps × (number q.server ≤ q.hash)

in_tail : (q p : Point) (ps : List Point) → In q (p ∷ ps) → (q.server ≡ p.server → ⊥) → In q ps
in_tail q p ps (inl e) n = absurd (n (ap (λ r. r.server) e))
in_tail q p ps (inr h) n = h

other_server : (seen : List Address) (a b : Address) → has seen a ≡ true → has seen b ≡ false → b ≡ a → ⊥
other_server seen a b h n e = false≢true (sym n ∙ (ap (has seen) e ∙ h))

nearest_seen : (number : Address → ℕ) (seen : List Address) (p : Point) (ps : List Point) → has seen p.server ≡ true → AreNearest number seen (p ∷ ps) → AreNearest number seen ps
nearest_seen number seen p ps s near q h n =
    let k = near q (inr h) n in (in_tail (at number q.server) p ps k.0 (other_server seen p.server q.server s n), k.1)

nearest_new : (number : Address → ℕ) (seen : List Address) (p : Point) (ps : List Point) → AreNearest number seen (p ∷ ps) → AreNearest number (seen ++ p.server ∷ []) ps
nearest_new number seen p ps near q h n =
    let k = near q (inr h) (not_seen seen p.server q.server n) in
    (in_tail (at number q.server) p ps k.0 (λ e. not_last seen p.server (ap (has (seen ++ p.server ∷ [])) (sym e) ∙ n)), k.1)

-- the first point of a server that was not seen stands at its number
nearest_here : (number : Address → ℕ) (seen : List Address) (p : Point) (ps : List Point) → IsAscending point_cmp (p ∷ ps) → has seen p.server ≡ false → AreNearest number seen (p ∷ ps) → p ≡ at number p.server
nearest_here number seen p ps up s near =
    let k = near p (inl refl) s in
    elim k.0 [
      | inl e ↦ sym e
      | inr h ↦
          elim (less_split p (at number p.server) (up.0 (at number p.server) h)) [
            | inl less ↦ absurd (omega (arith, k.1, less))
            | inr tie ↦ ap (λ (n : ℕ). record { hash = n; server = p.server }) tie.0
          ]
    ]

-- the first servers ascend by their numbers
pub firsts_ascend : (number : Address → ℕ) (seen : List Address) (ps : List Point) → IsAscending point_cmp ps → AreNearest number seen ps → IsAscending (by number) (firsts seen ps)
firsts_ascend number seen [] up near = tt
firsts_ascend number seen (p ∷ ps) up near =
    test_cases _ (has seen p.server)
    (λ s. subst (IsAscending (by number)) (sym (firsts_seen seen p ps s)) (firsts_ascend number seen ps up.1 (nearest_seen number seen p ps s near)))
    (λ s.
    let rest = nearest_new number seen p ps near in
    let here : p ≡ at number p.server = nearest_here number seen p ps up s near in
    subst (IsAscending (by number)) (sym (firsts_new seen p ps s)) (
      (λ b h.
          let m = in_firsts b (seen ++ p.server ∷ []) ps h in
          let stands : In (at number b) ps =
          subst (λ (a : Address). In (at number a) ps) m.1.2 (rest m.1.0 m.1.1 (ap (has (seen ++ p.server ∷ [])) m.1.2 ∙ m.0)).0
          in
          subst (λ (q : Point). point_cmp q (at number b) ≡ Less) here (up.0 (at number b) stands)),
      firsts_ascend number (seen ++ p.server ∷ []) ps up.1 rest,
    ))
