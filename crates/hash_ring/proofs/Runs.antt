-- Taking out a server's points, run by run.
use Rattle.std.proofs.Common.{◌≡◌, ℕ, suc, ◌+◌, ◌-◌, ◌≤◌, Bool, not, List, [], ◌∷◌, ◌++◌, take, drop, length, nat_lt, Some, None, refl, ap, sym, ◌∙◌, subst, arith, append_assoc}
use Rattle.std.specs.List.{copy_within, filter, position, position_or_len}
use Rattle.std.proofs.lemmas.Bool.{ltb-false}
use Rattle.std.proofs.lemmas.List.{drop-drop}
use Rattle.std.proofs.lemmas.List.Edits.{take-paste, drop-paste}
use Rattle.change_core.specs.declared.addresses.Address.{Address}
use Rattle.hash_ring.specs.declared.points.Point.{Point}
use Rattle.hash_ring.specs.Servers.{is_same}
use Rattle.hash_ring.proofs.Firsts.{test_cases}

-- ---- the first place where a test passes

pub position_or_len-le : {K : Type 0} (p : K → Bool) (xs : List K) → position_or_len p xs ≤ length xs
position_or_len-le p [] = omega arith
position_or_len-le p (x ∷ xs) =
    let rest = position_or_len-le p xs in
    test_cases _ (p x) (λ t. rw t (omega arith)) (λ f. rw f (omega (arith, rest)))

module _ {K : Type 0} (p : K → Bool) (xs : List K) where
  pub position_found : (n : ℕ) → position p xs ≡ Some n → n ≡ position_or_len p xs
  position_found n e =
      test_cases _ (nat_lt (position_or_len p xs) (length xs)) (λ t. let f = rw t at e in cc f) (λ t. let f = rw t at e in cc f)

  pub position_none : position p xs ≡ None → length xs ≡ position_or_len p xs
  position_none e =
      test_cases _ (nat_lt (position_or_len p xs) (length xs))
      (λ t. let f = rw t at e in cc f)
      (λ t. omega (arith, ltb-false (position_or_len p xs) (length xs) t, position_or_len-le p xs))

-- ---- one run

module _ (a : Address) where
  abbrev mine : Point → Bool
  mine p = is_same p.server a

  abbrev pub others : List Point → List Point
  others ps = filter (λ (p : Point). not (is_same p.server a)) ps

  run_more : (n : ℕ) (p : Point) (ps : List Point) → others ps ≡ take n ps ++ others (drop (suc n) ps) → p ∷ others ps ≡ take (1 + n) (p ∷ ps) ++ others (drop (1 + n) ps)
  run_more n p ps e =
      let one : suc n ≡ 1 + n = omega arith in
      subst (λ m. p ∷ others ps ≡ take m (p ∷ ps) ++ others (drop m ps)) one (ap (λ qs. p ∷ qs) e)

  -- the others are those up to the first of its points, and those after that
  filter-run : (ps : List Point) → others ps ≡ take (position_or_len mine ps) ps ++ others (drop (suc (position_or_len mine ps)) ps)
  filter-run [] = refl
  filter-run (p ∷ ps) =
      let rest = filter-run ps in
      test_cases _ (mine p)
      (λ t. rw t refl)
      (λ f. rw f (run_more (position_or_len mine ps) p ps rest))

  -- one turn: a run moves down to those that are kept, and the point after it is passed over
  pub run_step : (ps copied : List Point) (kept at n m : ℕ) → n ≡ position_or_len mine (drop at ps) → m ≡ n → kept ≤ at → at ≤ length ps → n ≤ length (drop at ps) → copied ≡ copy_within ps at (at + n) kept →
      take (kept + m) copied ++ others (drop (at + n + 1) copied) ≡ take kept ps ++ others (drop at ps)
  run_step ps copied kept at n m first size le low fits e =
      let rest = drop at ps in
      let span : at + n - at ≡ n = omega arith in
      let pasted : copied ≡ copy_within ps at (at + n) kept = e in
      let ends : at + n + 1 ≡ (kept + n) + (at + n + 1 - (kept + n)) = omega (arith, le) in
      let after : at + n + 1 ≡ at + suc n = omega arith in
      let k = at + n + 1 - (kept + n) in
      let prefix : take (kept + m) copied ≡ take kept ps ++ take n rest =
      rw (size, pasted, span) (take-paste ps kept rest n (omega (arith, le, low)) fits)
      in
      let cut : drop (kept + n) copied ≡ drop (kept + n) ps =
      rw (pasted, span) (drop-paste ps kept rest n (omega (arith, le, low)) fits)
      in
      let back : drop (at + n + 1) copied ≡ drop (suc n) rest =
      ap (λ i. drop i copied) ends ∙ (sym (drop-drop k (kept + n) copied) ∙ (ap (drop k) cut ∙ (drop-drop k (kept + n) ps ∙ (ap (λ i. drop i ps) (sym ends ∙ after) ∙ sym (drop-drop (suc n) at ps)))))
      in
      let run : others rest ≡ take n rest ++ others (drop (suc n) rest) =
      filter-run rest ∙ ap (λ i. take i rest ++ others (drop (suc i) rest)) (sym first)
      in
      rw (prefix, back) (append_assoc (take kept ps) (take n rest) (others (drop (suc n) rest)) ∙ ap (λ qs. take kept ps ++ qs) (sym run))
