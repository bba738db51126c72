-- Requests that wait for other nodes, as others come and go.
use Rattle.std.proofs.Common.{◌≡◌, ◌<◌, ◌≤◌, ◌+◌, ◌⊎◌, inl, inr, ℕ, suc, Bool, true, false, not, nat_lt, cond, List, [], ◌∷◌, ◌++◌, length, remove, Some, None, refl, sym, ap, subst, arith, length-append, true≢false}
use Rattle.std.specs.Prelude.{◌&&◌, ◌||◌}
use Rattle.std.specs.List.{position, position_or_len}
use Rattle.std.proofs.lemmas.Bool.{eqb-true, lt-ltb, ltb-true}
use Rattle.std.proofs.lemmas.List.Sums.{count_by-le-length, sum_by-cons, sum_by_push}
use Rattle.hash_ring.proofs.Firsts.{test_cases}
use Rattle.hash_ring.proofs.Runs.{position_found, position_none}
use Rattle.agent_core.specs.Shares.{IsShared, OneSparesOthers, count_beside, count_for, is_for, may_wait, waiting_without}

either : (b : Bool) → cond b 1 0 + cond (not b) 1 0 ≡ 1
either true = refl
either false = refl

count_more : (one w : ℕ) (ws : List ℕ) → count_for one (w ∷ ws) ≡ cond (is_for one w) 1 0 + count_for one ws
count_more one w ws = sum_by-cons (λ (a : ℕ). cond (is_for one a) 1 0) w ws

beside_more : (one w : ℕ) (ws : List ℕ) → count_beside one (w ∷ ws) ≡ cond (not (is_for one w)) 1 0 + count_beside one ws
beside_more one w ws = sum_by-cons (λ (a : ℕ). cond (not (is_for one a)) 1 0) w ws

count_pushed : (one owner : ℕ) (ws : List ℕ) → count_for one (ws ++ owner ∷ []) ≡ count_for one ws + cond (is_for one owner) 1 0
count_pushed one owner ws = sum_by_push (λ (a : ℕ). cond (is_for one a) 1 0) ws owner

most_counted : (one : ℕ) (ws : List ℕ) → count_for one ws ≤ length ws
most_counted one ws = count_by-le-length (is_for one) ws

-- those for a node and those for others are all of them
all_counted : (one : ℕ) (ws : List ℕ) → count_for one ws + count_beside one ws ≡ length ws
all_counted one [] = refl
all_counted one (w ∷ ws) = omega (arith, count_more one w ws, beside_more one w ws, either (is_for one w), all_counted one ws)

-- ---- one goes

first_removed : (owner : ℕ) (ws : List ℕ) → position_or_len (is_for owner) ws < length ws → remove ws (position_or_len (is_for owner) ws) ≡ waiting_without owner ws
first_removed owner [] low = absurd (omega arith)
first_removed owner (w ∷ ws) low =
    test_cases _ (is_for owner w)
    (λ t. rw t refl)
    (λ f. rw f (next (position_or_len (is_for owner) ws) (first_removed owner ws (let l = rw f at low in omega (arith, l)))))
  where
    next : (n : ℕ) → remove ws n ≡ waiting_without owner ws → remove (w ∷ ws) (1 + n) ≡ w ∷ waiting_without owner ws
    next n e = let one : suc n ≡ 1 + n = omega arith in subst (λ (m : ℕ). remove (w ∷ ws) m ≡ w ∷ waiting_without owner ws) one (ap (λ r. w ∷ r) e)

none_removed : (owner : ℕ) (ws : List ℕ) → length ws ≡ position_or_len (is_for owner) ws → ws ≡ waiting_without owner ws
none_removed owner [] e = refl
none_removed owner (w ∷ ws) e =
    test_cases _ (is_for owner w)
    (λ t. absurd (let l = rw t at e in omega (arith, l)))
    (λ f. rw f (ap (λ r. w ∷ r) (none_removed owner ws (let l = rw f at e in omega (arith, l)))))

pub removed_at : (owner : ℕ) (ws : List ℕ) (i : ℕ) → position (is_for owner) ws ≡ Some i → i < length ws → remove ws i ≡ waiting_without owner ws
removed_at owner ws i found low =
    let here = position_found (is_for owner) ws i found in
    subst (λ (n : ℕ). n < length ws → remove ws n ≡ waiting_without owner ws) (sym here) (first_removed owner ws) low

pub removed_none : (owner : ℕ) (ws : List ℕ) → position (is_for owner) ws ≡ None → ws ≡ waiting_without owner ws
removed_none owner ws none = none_removed owner ws (position_none (is_for owner) ws none)

module _ (owner : ℕ) where
  shorter_by : (w : ℕ) (ws rest : List ℕ) (b : Bool) → length rest ≤ length ws → length (cond b ws (w ∷ rest)) ≤ length (w ∷ ws)
  shorter_by w ws rest true less = omega arith
  shorter_by w ws rest false less = omega (arith, less)

  shorter : (ws : List ℕ) → length (waiting_without owner ws) ≤ length ws
  shorter [] = omega arith
  shorter (w ∷ ws) = shorter_by w ws (waiting_without owner ws) (is_for owner w) (shorter ws)

  fewer_by : (one w : ℕ) (ws rest : List ℕ) (b : Bool) → count_for one rest ≤ count_for one ws → count_for one (cond b ws (w ∷ rest)) ≤ count_for one (w ∷ ws)
  fewer_by one w ws rest true less = omega (arith, count_more one w ws)
  fewer_by one w ws rest false less = omega (arith, count_more one w ws, count_more one w rest, less)

  fewer : (one : ℕ) (ws : List ℕ) → count_for one (waiting_without owner ws) ≤ count_for one ws
  fewer one [] = omega arith
  fewer one (w ∷ ws) = fewer_by one w ws (waiting_without owner ws) (is_for owner w) (fewer one ws)

  pub shared_without : (ws : List ℕ) → IsShared ws → IsShared (waiting_without owner ws)
  shared_without ws shared = record {
    all = omega (arith, shorter ws, shared.all);
    each = λ one. omega (arith, fewer one ws, shared.each one);
  }

-- ---- one comes

allowed : (n k : ℕ) → (nat_lt n 64 || (nat_lt n 128 && nat_lt k 32)) ≡ true → (n < 64) ⊎ ((n < 128) × (k < 32))
allowed n k e =
    test_cases _ (nat_lt n 64)
    (λ t. inl (ltb-true n 64 t))
    (λ f. test_cases _ (nat_lt n 128)
    (λ t. inr (ltb-true n 128 t, ltb-true k 32 (let g = rw f at e in rw t at g)))
    (λ g. let h = rw f at e in let i = rw g at h in absurd (true≢false (sym i))))

may_if : (n k : ℕ) → n < 128 → k < 32 → (nat_lt n 64 || (nat_lt n 128 && nat_lt k 32)) ≡ true
may_if n k low few = rw (lt-ltb n 128 low) (rw (lt-ltb k 32 few) (test_cases _ (nat_lt n 64) (λ t. rw t refl) (λ f. rw f refl)))

-- as many as there were wait for one, or one more that is the owner's
one_more : (one owner : ℕ) (k : ℕ) (b : Bool) → is_for one owner ≡ b → (one ≡ owner → k < 32) → k ≤ 64 → k + cond b 1 0 ≤ 64
one_more one owner k true is few most = omega (arith, few (sym (eqb-true owner one is)))
one_more one owner k false is few most = omega (arith, most)

pub shared_with : (owner : ℕ) (ws : List ℕ) → may_wait owner ws ≡ true → IsShared ws → IsShared (ws ++ owner ∷ [])
shared_with owner ws may shared =
    elim (allowed (length ws) (count_for owner ws) may) [
      | inl low ↦ record {
        all = omega (arith, low, length-append ws (owner ∷ []));
        each = λ one. omega (arith, low, length-append ws (owner ∷ []), most_counted one (ws ++ owner ∷ []));
      }
      | inr both ↦ record {
        all = omega (arith, both.0, length-append ws (owner ∷ []));
        each = λ one. subst (λ (n : ℕ). n ≤ 64) (sym (count_pushed one owner ws))
            (one_more one owner (count_for one ws) (is_for one owner) refl (λ same. subst (λ (o : ℕ). count_for o ws < 32) (sym same) both.1) (shared.each one));
      }
    ]

pub spared : (ws : List ℕ) → IsShared ws → OneSparesOthers ws
spared ws shared = λ one owner beside few. may_if (length ws) (count_for owner ws) (omega (arith, all_counted one ws, shared.each one, beside)) few
