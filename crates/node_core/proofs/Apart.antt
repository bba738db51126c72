-- Pending changes that are about different addresses, by recursion, and how they stay so.
use Rattle.std.proofs.Common.{◌≡◌, ◌≢◌, ℕ, zero, suc, ◌<◌, ◌⊎◌, Bool, true, false, cond, eqb, List, [], ◌∷◌, map, refl, sym, ◌∙◌, ap, inl, inr, length, get_or, arith}
use Rattle.std.specs.Prelude.{filter, All}
use Rattle.std.proofs.lemmas.Bool.{eqb-true, eqb-false}
use Rattle.std.proofs.lemmas.List.Kept.{AllPairs-cons}
use Rattle.std.proofs.lemmas.List.Elements.{All-nil, All-cons}
use Rattle.change_core.specs.declared.changes.Sourced.{Sourced}
use Rattle.change_core.specs.Ascending.{In}
use Rattle.change_core.proofs.Order.{in_filter}
use Rattle.gossip_core.specs.declared.pending.Pending.{Pending}
use Rattle.gossip_core.specs.Pending.{put_pending, fresh, counted, once_more, is_issued, subject, OnePerAddress}
use Rattle.node_core.proofs.Listed.{In-put, In-map}

-- no two are about one address
abbrev pub AreApart : List Pending → Type 0
AreApart [] = Unit {0}
AreApart (p ∷ ps) = ((q : Pending) → In q ps → subject q ≢ subject p) × AreApart ps

at_place : (q : Pending) (ps : List Pending) → In q ps → (j : ℕ) × (j < length ps) × ((d : Pending) → get_or ps j d ≡ q)
at_place q [] h = absurd h
at_place q (p ∷ ps) (inl e) = (zero, omega arith, λ d. sym e)
at_place q (p ∷ ps) (inr h) = let r = at_place q ps h in (suc r.0, omega (arith, r.1), λ d. r.2 d)

pub AreApart-from_each : (ps : List Pending) → OnePerAddress ps → AreApart ps
AreApart-from_each [] one = tt
AreApart-from_each (p ∷ ps) one = (
  λ q h e. let r = at_place q ps h in one zero (suc r.0) p (omega arith) (omega (arith, r.1)) (sym e ∙ ap subject (sym (r.2 p))),
  AreApart-from_each ps (λ i j d h w. one (suc i) (suc j) d (omega (arith, h)) (omega (arith, w))),
)

All-from_in : (P : Pending → Type 0) (ps : List Pending) → ((q : Pending) → In q ps → P q) → All P ps
All-from_in P [] h = All-nil P
All-from_in P (p ∷ ps) h = All-cons P p ps (h p (inl refl)) (All-from_in P ps (λ q k. h q (inr k)))

pub OnePerAddress-from_apart : (ps : List Pending) → AreApart ps → OnePerAddress ps
OnePerAddress-from_apart [] h = λ i j d k w. absurd (omega (arith, w))
OnePerAddress-from_apart (p ∷ ps) h =
    AllPairs-cons (λ a b. subject a ≢ subject b) p ps (All-from_in (λ q. subject p ≢ subject q) ps (λ q k e. h.0 q k (sym e))) (OnePerAddress-from_apart ps h.1)

pub apart-filter : (test : Pending → Bool) (ps : List Pending) → AreApart ps → AreApart (filter test ps)
apart-filter test [] h = h
apart-filter test (p ∷ ps) h = by_test (test p) (apart-filter test ps h.1)
  where
    by_test : (b : Bool) → AreApart (filter test ps) → AreApart (cond b (p ∷ filter test ps) (filter test ps))
    by_test true again = (λ q k. h.0 q (in_filter test q ps k).0, again)
    by_test false again = again

pub apart-put : (ps : List Pending) (s : Sourced) → AreApart ps → AreApart (put_pending ps s)
apart-put [] s h = (λ q k. absurd k, tt)
apart-put (p ∷ ps) s h = by_address (eqb s.change.address (subject p)) refl (apart-put ps s h.1)
  where
    by_address : (b : Bool) → eqb s.change.address (subject p) ≡ b → AreApart (put_pending ps s) → AreApart (cond b (fresh s ∷ ps) (p ∷ put_pending ps s))
    by_address true e again = (λ q k j. h.0 q k (j ∙ eqb-true s.change.address (subject p) e), h.1)
    by_address false e again = (
      λ q k j. elim (In-put ps s q k) [
        | inl same ↦ eqb-false s.change.address (subject p) e (sym (ap subject same) ∙ j)
        | inr l ↦ h.0 q l j
      ],
      again,
    )

-- what changes no subject leaves them apart
apart-map : (f : Pending → Pending) → ((p : Pending) → subject (f p) ≡ subject p) → (ps : List Pending) → AreApart ps → AreApart (map f ps)
apart-map f same [] h = h
apart-map f same (p ∷ ps) h = (
  λ q l j. let r = In-map f q ps l in h.0 r.0 r.1 (sym (same r.0) ∙ (ap subject r.2 ∙ (j ∙ same p))),
  apart-map f same ps h.1,
)

pub apart-counted : (target k : ℕ) (ps : List Pending) → AreApart ps → AreApart (counted target k ps)
apart-counted target k ps = apart-map (λ p. cond (is_issued target k ps p) (once_more p) p) (λ p. same (is_issued target k ps p) p) ps
  where
    same : (b : Bool) (p : Pending) → subject (cond b (once_more p) p) ≡ subject p
    same true p = refl
    same false p = refl

-- what is pending after a put is the new one, or about another
pub put-cases : (ps : List Pending) (s : Sourced) (p : Pending) → AreApart ps → In p (put_pending ps s) → (p ≡ fresh s) ⊎ (In p ps × (subject p ≢ s.change.address))
put-cases [] s p h (inl e) = inl e
put-cases [] s p h (inr k) = absurd k
put-cases (q ∷ ps) s p h k = by_address (eqb s.change.address (subject q)) refl (λ l. put-cases ps s p h.1 l) k
  where
    by_address : (b : Bool) → eqb s.change.address (subject q) ≡ b → (In p (put_pending ps s) → (p ≡ fresh s) ⊎ (In p ps × (subject p ≢ s.change.address)))
        → In p (cond b (fresh s ∷ ps) (q ∷ put_pending ps s)) → (p ≡ fresh s) ⊎ (In p (q ∷ ps) × (subject p ≢ s.change.address))
    by_address true e again (inl same) = inl same
    by_address true e again (inr l) = inr (inr l, λ j. h.0 p l (j ∙ eqb-true s.change.address (subject q) e))
    by_address false e again (inl same) = inr (inl same, λ j. eqb-false s.change.address (subject q) e (sym (ap subject (sym same) ∙ j)))
    by_address false e again (inr l) = elim (again l) [ inl same ↦ inl same | inr m ↦ inr (inr m.0, m.1) ]
