-- What a node still has to take and to pass on, as lists: how many changes are news to it, and how often those that are pending may still be issued.
use Rattle.std.proofs.Common.{arith, ◌≡◌, ◌⊎◌, ℕ, suc, ◌+◌, ◌-◌, ◌*◌, ◌<◌, ◌≤◌, Bool, true, false, cond, eqb, nat_eq, ◌||◌, List, [], ◌∷◌, length, refl, sym, ◌∙◌, ap, subst, inl, inr}
use Rattle.std.specs.Prelude.{filter, map}
use Rattle.std.specs.Cmp.{nat_eq_equiv}
use Rattle.std.specs.List.{count_by, list_any}
use Rattle.std.proofs.Math.Nat.{suc-mul}
use Rattle.std.proofs.lemmas.Bool.{eq-eqb, false≢true}
use Rattle.std.proofs.lemmas.Bool.Decides.{Decides-eqb}
use Rattle.std.proofs.lemmas.List.Kept.{AllPairs-from_increasing}
use Rattle.std.proofs.lemmas.List.Sums.{sum_by-cons, sum_by-le-sum_by}
use Rattle.std.proofs.lemmas.Map.Made.{IsDistinct-from_AllPairs, length-le_from_is_member}
use Rattle.change_core.specs.declared.changes.Change.{Change}
use Rattle.change_core.specs.declared.changes.Sourced.{Sourced}
use Rattle.change_core.specs.Ascending.{In}
use Rattle.change_core.specs.Members.{address_of_change, addresses, IsRising}
use Rattle.change_core.proofs.Ascends.{Contains-In, Contains-ascending, In-Contains}
use Rattle.change_core.proofs.Increasing.{IsStrictlyIncreasing-IsRising}
use Rattle.detector_core.proofs.OrderLemmas.{Contains-is_in, is_in-yes}
use Rattle.gossip_core.specs.declared.pending.Pending.{Pending}
use Rattle.gossip_core.specs.Pending.{subject, fresh, put_pending, once_more, issued, counted}
use Rattle.hash_ring.proofs.ListMembers.{map_in}
use Rattle.node_core.proofs.Listed.{In-issued, In-map}

-- addresses of one list are no more than another has
pub no_more-addresses : (xs ys : List ℕ) → IsRising xs → ((a : ℕ) → In a xs → In a ys) → length xs ≤ length ys
no_more-addresses xs ys rising among =
    let apart = AllPairs-from_increasing xs (IsStrictlyIncreasing-IsRising xs rising) in
    length-le_from_is_member {eq = nat_eq} nat_eq_equiv xs ys
    (IsDistinct-from_AllPairs Decides-eqb xs (λ i j d before within e. absurd (omega (arith, apart i j d before within, e))))
    (λ a h. is_in-yes ys a (Contains-In a ys (among a (In-Contains a xs (Contains-is_in xs a h)))))

pub in_addresses : (c : Change) (cs : List Change) → In c cs → In c.address (addresses cs)
in_addresses c cs h =
    In-Contains c.address (addresses cs) ((Contains-ascending (map address_of_change cs) c.address).1
    (Contains-In c.address (map address_of_change cs) (map_in address_of_change c cs h)))

pub addresses_in : (a : ℕ) (cs : List Change) → In a (addresses cs) → (c : Change) × In c cs × (c.address ≡ a)
addresses_in a cs h =
    In-map address_of_change a cs
    (In-Contains a (map address_of_change cs) ((Contains-ascending (map address_of_change cs) a).0 (Contains-In a (addresses cs) h)))

-- what passes one test passes another, so no more pass the one

one-passes : (b c : Bool) → (b ≡ true → c ≡ true) → cond b 1 0 ≤ cond c 1 0
one-passes true true h = omega arith
one-passes true false h = absurd (false≢true (h refl))
one-passes false c h = omega arith

module _ {X : Type 0} (f g : X → Bool) (passes : (x : X) → f x ≡ true → g x ≡ true) where
  pub no_more-pass : (xs : List X) → count_by f xs ≤ count_by g xs
  no_more-pass xs = sum_by-le-sum_by (λ x. cond (f x) 1 0) (λ x. cond (g x) 1 0) xs (λ x. one-passes (f x) (g x) (passes x))

  -- and fewer, where one passes the other alone
  pub fewer-pass : (xs : List X) (x : X) → In x xs → f x ≡ false → g x ≡ true → count_by f xs + 1 ≤ count_by g xs
  fewer-pass [] x h fails holds = absurd h
  fewer-pass (y ∷ ys) x h fails holds = by_place h (λ k. fewer-pass ys x k fails holds)
    where
      of_f : count_by f (y ∷ ys) ≡ cond (f y) 1 0 + count_by f ys
      of_f = sum_by-cons (λ z. cond (f z) 1 0) y ys

      of_g : count_by g (y ∷ ys) ≡ cond (g y) 1 0 + count_by g ys
      of_g = sum_by-cons (λ z. cond (g z) 1 0) y ys

      one : cond (f y) 1 0 ≤ cond (g y) 1 0
      one = one-passes (f y) (g y) (passes y)

      by_place : (x ≡ y) ⊎ In x ys → (In x ys → count_by f ys + 1 ≤ count_by g ys) → count_by f (y ∷ ys) + 1 ≤ count_by g (y ∷ ys)
      by_place (inl e) again =
          let rest : count_by f ys ≤ count_by g ys = no_more-pass ys in
          let none : ◌≡◌ {A = ℕ} (cond (f y) 1 0) 0 = ap (λ z. cond (f z) 1 0) (sym e) ∙ ap (λ b. cond b 1 0) fails in
          let this : ◌≡◌ {A = ℕ} (cond (g y) 1 0) 1 = ap (λ z. cond (g z) 1 0) (sym e) ∙ ap (λ b. cond b 1 0) holds in
          omega (arith, of_f, of_g, rest, none, this)
      by_place (inr k) again =
          let rest : count_by f ys + 1 ≤ count_by g ys = again k in
          omega (arith, of_f, of_g, rest, one)

-- how often the pending changes may still be issued, where none is issued more often than L times

module _ (L : ℕ) where
  abbrev pub unsent : List Pending → ℕ
  unsent [] = 0
  unsent (p ∷ ps) = (L - p.count) + unsent ps

  pub unsent-few : (ps : List Pending) → unsent ps ≤ length ps * L
  unsent-few [] = omega arith
  unsent-few (p ∷ ps) =
      let rest : unsent ps ≤ length ps * L = unsent-few ps in
      let row : suc (length ps) * L ≡ length ps * L + L = suc-mul (length ps) L in
      omega (arith, rest, row)

  pub unsent-put : (ps : List Pending) (s : Sourced) → unsent (put_pending ps s) ≤ unsent ps + L
  unsent-put [] s = omega arith
  unsent-put (p ∷ ps) s = by_subject (eqb s.change.address (subject p)) (unsent-put ps s)
    where
      by_subject : (b : Bool) → unsent (put_pending ps s) ≤ unsent ps + L → unsent (cond b (fresh s ∷ ps) (p ∷ put_pending ps s)) ≤ ((L - p.count) + unsent ps) + L
      by_subject true again = omega arith
      by_subject false again = omega (arith, again)

  pub unsent-filter : (test : Pending → Bool) (ps : List Pending) → unsent (filter test ps) ≤ unsent ps
  unsent-filter test [] = omega arith
  unsent-filter test (p ∷ ps) = by_test (test p) (unsent-filter test ps)
    where
      by_test : (b : Bool) → unsent (filter test ps) ≤ unsent ps → unsent (cond b (p ∷ filter test ps) (filter test ps)) ≤ (L - p.count) + unsent ps
      by_test true again = omega (arith, again)
      by_test false again = omega (arith, again)

  -- those that are about certain addresses are issued once more

  abbrev more_of : (ℕ → Bool) → Pending → Pending
  more_of test p = cond (test (subject p)) (once_more p) p

  more-count : (b : Bool) (p : Pending) → p.count ≤ (cond b (once_more p) p).count
  more-count true p = omega arith
  more-count false p = omega arith

  unsent-more : (test : ℕ → Bool) (ps : List Pending) → unsent (map (more_of test) ps) ≤ unsent ps
  unsent-more test [] = omega arith
  unsent-more test (p ∷ ps) =
      let rest : unsent (map (more_of test) ps) ≤ unsent ps = unsent-more test ps in
      let one : p.count ≤ (more_of test p).count = more-count (test (subject p)) p in
      omega (arith, rest, one)

  unsent-once_more : (test : ℕ → Bool) (ps : List Pending) (q : Pending) → In q ps → test (subject q) ≡ true → q.count < L → unsent (map (more_of test) ps) + 1 ≤ unsent ps
  unsent-once_more test [] q h marked below = absurd h
  unsent-once_more test (p ∷ ps) q h marked below = by_place h (λ k. unsent-once_more test ps q k marked below)
    where
      one : p.count ≤ (more_of test p).count
      one = more-count (test (subject p)) p

      by_place : (q ≡ p) ⊎ In q ps → (In q ps → unsent (map (more_of test) ps) + 1 ≤ unsent ps)
          → ((L - (more_of test p).count) + unsent (map (more_of test) ps)) + 1 ≤ (L - p.count) + unsent ps
      by_place (inl e) again =
          let rest : unsent (map (more_of test) ps) ≤ unsent ps = unsent-more test ps in
          let more : (more_of test p).count ≡ p.count + 1 = ap (λ b. (cond b (once_more p) p).count) (ap (λ (r : Pending). test (subject r)) (sym e) ∙ marked) in
          let few : p.count < L = subst (λ (r : Pending). r.count < L) e below in
          omega (arith, rest, more, few)
      by_place (inr k) again =
          let rest : unsent (map (more_of test) ps) + 1 ≤ unsent ps = again k in
          omega (arith, rest, one)

  -- an issue of some changes to a target

  abbrev is_among : List Sourced → ℕ → Bool
  is_among ss x = list_any (λ s. eqb s.change.address x) ss

  any-first : (s : Sourced) (ss : List Sourced) → is_among (s ∷ ss) s.change.address ≡ true
  any-first s ss = ap (λ b. b || is_among ss s.change.address) (eq-eqb s.change.address s.change.address refl)

  pub unsent-counted : (target k : ℕ) (ps : List Pending) → unsent (counted target k ps) ≤ unsent ps
  unsent-counted target k ps = unsent-more (is_among (issued target k ps)) ps

  pub unsent-issued : (target k : ℕ) (ps : List Pending) (s : Sourced) (ss : List Sourced) → issued target k ps ≡ s ∷ ss → ((p : Pending) → In p ps → p.count < L)
      → unsent (counted target k ps) + 1 ≤ unsent ps
  unsent-issued target k ps s ss e below =
      let r = In-issued target k ps s (subst (λ (l : List Sourced). In s l) (sym e) (inl refl)) in
      let at : subject r.0 ≡ s.change.address = ap (λ (t : Sourced). t.change.address) r.2 in
      let among : is_among (issued target k ps) (subject r.0) ≡ true
      = ap (is_among (issued target k ps)) at ∙ ap (λ (l : List Sourced). is_among l s.change.address) e ∙ any-first s ss in
      unsent-once_more (is_among (issued target k ps)) ps r.0 r.1 among (below r.0 r.1)
