-- What callers cite of the pending list: one change for each address, none issued to its source, and facts that last.
use Rattle.std.proofs.Common.{◌≡◌, ℕ, suc, ◌≢◌, ◌==◌, Bool, true, false, not, nat_lt, cond, List, [], ◌∷◌, filter, take, refl, sym, ◌∙◌, All, AllPairs, arith, eqb-true}
use Rattle.std.proofs.lemmas.Bool.{eqb-false}
use Rattle.std.proofs.lemmas.List.Elements.{All-cons, All-tail, All-nil, All-filter, All-take, All-map, All-weaker, filter_passes}
use Rattle.std.proofs.lemmas.List.Kept.{AllPairs-cons, AllPairs-filter}
use Rattle.change_core.specs.declared.changes.Sourced.{Sourced}
use Rattle.gossip_core.specs.declared.pending.Pending.{Pending}
use Rattle.gossip_core.specs.Pending.{subject, fresh, put_pending, may_go_to, issued, below, OnePerAddress}

not_is : (b : Bool) → not b ≡ true → b ≡ false
not_is true h = sym h
not_is false h = refl

-- a fact of the others, and of the new change, holds of each change after `put`
pub All-put_pending : (P : Pending → Type 0) (ps : List Pending) (s : Sourced) → OnePerAddress ps → All (λ p. subject p ≢ s.change.address → P p) ps → P (fresh s) → All P (put_pending ps s)
All-put_pending P [] s one others new = All-cons P (fresh s) [] new (All-nil P)
All-put_pending P (p ∷ ps) s one others new =
    let rest = All-tail (λ p. subject p ≢ s.change.address → P p) p ps others in
    let one_rest : OnePerAddress ps = λ i j d h w. one (suc i) (suc j) d (omega arith) (omega arith) in
    by (s.change.address == subject p) refl rest (λ k d w same. one 0 (suc k) d (omega arith) (omega arith) (sym same)) (All-put_pending P ps s one_rest rest new) (others 0 p (omega arith))
  where
    by : (b : Bool) → (s.change.address == subject p) ≡ b → All (λ p. subject p ≢ s.change.address → P p) ps → All (λ q. subject q ≢ subject p) ps
        → All P (put_pending ps s) → (subject p ≢ s.change.address → P p) → All P (cond b (fresh s ∷ ps) (p ∷ put_pending ps s))
    by true same rest apart put_rest first =
        let here : s.change.address ≡ subject p = eqb-true s.change.address (subject p) same in
        All-cons P (fresh s) ps new (λ k d w. rest k d w (λ e. apart k d w (e ∙ here)))
    by false same rest apart put_rest first = All-cons P p (put_pending ps s) (first (λ e. eqb-false s.change.address (subject p) same (sym e))) put_rest

-- a change of each subject at most, after each call
pub OnePerAddress-put_pending : (ps : List Pending) (s : Sourced) → OnePerAddress ps → OnePerAddress (put_pending ps s)
OnePerAddress-put_pending [] s one = AllPairs-cons (λ p q. subject p ≢ subject q) (fresh s) [] (All-nil (λ q. s.change.address ≢ subject q)) one
OnePerAddress-put_pending (p ∷ ps) s one =
    let one_rest : OnePerAddress ps = λ i j d h w. one (suc i) (suc j) d (omega arith) (omega arith) in
    let apart : All (λ q. subject p ≢ subject q) ps = λ k d w. one 0 (suc k) d (omega arith) (omega arith) in
    by (s.change.address == subject p) refl one_rest apart (OnePerAddress-put_pending ps s one_rest) (λ new. All-put_pending (λ q. subject p ≢ subject q) ps s one_rest (All-weaker (λ q. subject p ≢ subject q) (λ q. subject q ≢ s.change.address → subject p ≢ subject q) (λ q h e. h) ps apart) new)
  where
    R : Pending → Pending → Type 0
    R p q = subject p ≢ subject q

    by : (b : Bool) → (s.change.address == subject p) ≡ b → AllPairs (λ p q. subject p ≢ subject q) ps → All (λ q. subject p ≢ subject q) ps
        → AllPairs (λ p q. subject p ≢ subject q) (put_pending ps s) → ((subject p ≢ s.change.address) → All (λ q. subject p ≢ subject q) (put_pending ps s)) → AllPairs (λ p q. subject p ≢ subject q) (cond b (fresh s ∷ ps) (p ∷ put_pending ps s))
    by true same rest apart put_rest still =
        let here : s.change.address ≡ subject p = eqb-true s.change.address (subject p) same in
        AllPairs-cons (λ p q. subject p ≢ subject q) (fresh s) ps (λ k d w e. apart k d w (sym here ∙ e)) rest
    by false same rest apart put_rest still = AllPairs-cons (λ p q. subject p ≢ subject q) p (put_pending ps s) (still (λ e. eqb-false s.change.address (subject p) same (sym e))) put_rest

pub OnePerAddress-below : (limit : ℕ) (ps : List Pending) → OnePerAddress ps → OnePerAddress (below limit ps)
OnePerAddress-below limit ps one = AllPairs-filter (λ p q. subject p ≢ subject q) (λ p. nat_lt p.count limit) ps one

-- no change is issued to its source
pub not_to_its_source : (t k : ℕ) (ps : List Pending) → All (λ s. s.source ≢ t) (issued t k ps)
not_to_its_source t k ps =
    let P : Pending → Type 0 = λ p. p.sourced.source ≢ t in
    let passed : All P (filter (may_go_to t) ps) =
    All-weaker (λ p. may_go_to t p ≡ true) P (λ p h. eqb-false p.sourced.source t (not_is (p.sourced.source == t) h)) (filter (may_go_to t) ps) (filter_passes (may_go_to t) ps) in
    All-map (λ s. s.source ≢ t) (λ p. p.sourced) (take k (filter (may_go_to t) ps)) (All-take P k (filter (may_go_to t) ps) passed)

-- each change that is issued is pending
pub All-issued : (Q : Sourced → Type 0) (t k : ℕ) (ps : List Pending) → All (λ p. Q p.sourced) ps → All Q (issued t k ps)
All-issued Q t k ps h =
    All-map Q (λ p. p.sourced) (take k (filter (may_go_to t) ps)) (All-take (λ p. Q p.sourced) k (filter (may_go_to t) ps) (All-filter (may_go_to t) (λ p. Q p.sourced) ps h))
