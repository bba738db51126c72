-- What going along the list leaves is what `counted` says, and as much is counted as is issued.
use Rattle.std.proofs.Common.{◌≡◌, ℕ, zero, suc, ◌-◌, ◌≢◌, ◌==◌, ◌||◌, Bool, true, false, cond, if◌then◌else◌, List, [], ◌∷◌, map, length, ◌+◌, refl, sym, ap, ◌∙◌, arith}
use Rattle.std.proofs.lemmas.Bool.{ne_eqb}
use Rattle.std.proofs.lemmas.List.Elements.{All-tail, All-weaker}
use Rattle.std.proofs.lemmas.List.Folds.{list_any_none}
use Rattle.std.proofs.lemmas.List.Sums.{sum_by-cons}
use Rattle.std.specs.List.{list_any, sum_by}
use Rattle.change_core.specs.declared.changes.Sourced.{Sourced}
use Rattle.gossip_core.specs.declared.pending.Pending.{Pending}
use Rattle.gossip_core.specs.Pending.{subject, may_go_to, issued, once_more, counted, NoneAbout, OnePerAddress}
use Rattle.gossip_core.proofs.PendingLaws.{All-issued}
use Rattle.gossip_core.proofs.PendingLemmas.{counted_along, counted_along-none, counted_along-cons_yes, counted_along-cons_no, issued-cons_yes, issued-cons_no}

-- p, counted_along once more if a change about its address is among these
abbrev marked : List Sourced → Pending → Pending
marked given p = if list_any (λ s. s.change.address == subject p) given then once_more p else p

-- where none is about an address, none that is issued is
none_issued : (t k a : ℕ) (ps : List Pending) → NoneAbout a ps → list_any (λ s. s.change.address == a) (issued t k ps) ≡ false
none_issued t k a ps none =
    list_any_none (λ s. s.change.address == a) (issued t k ps)
    (All-issued (λ s. (s.change.address == a) ≡ false) t k ps (All-weaker (λ p. subject p ≢ a) (λ p. (subject p == a) ≡ false) (λ p h. ne_eqb (subject p) a h) ps none))

-- one more change in the list marks none that is about another address
map-marked : (s : Sourced) (given : List Sourced) (ps : List Pending) → NoneAbout s.change.address ps → map (marked (s ∷ given)) ps ≡ map (marked given) ps
map-marked s given [] none = refl
map-marked s given (p ∷ ps) none =
    let apart : (s.change.address == subject p) ≡ false = ne_eqb s.change.address (subject p) (λ e. none 0 p (omega arith) (sym e)) in
    let rest = map-marked s given ps (All-tail (λ p. subject p ≢ s.change.address) p ps none) in
    λ j. cond (apart j || list_any (λ s. s.change.address == subject p) given) (once_more p) p ∷ rest j

pub counted_along-is : (t k : ℕ) (ps : List Pending) → OnePerAddress ps → counted_along t k ps ≡ counted t k ps
counted_along-is t k [] one = refl
counted_along-is t zero (p ∷ ps) one = counted_along-none t (p ∷ ps) ∙ sym (none_marked (p ∷ ps))
  where
    none_marked : (ps : List Pending) → map (marked []) ps ≡ ps
    none_marked [] = refl
    none_marked (p ∷ ps) = ap (λ l. p ∷ l) (none_marked ps)
counted_along-is t (suc k) (p ∷ ps) one =
    let one_rest : OnePerAddress ps = λ i j d h w. one (suc i) (suc j) d (omega arith) (omega arith) in
    let none : NoneAbout (subject p) ps = λ k d w e. one 0 (suc k) d (omega arith) (omega arith) (sym e) in
    by (may_go_to t p) refl none (counted_along-is t (suc k - 1) ps one_rest) (counted_along-is t (suc k) ps one_rest)
  where
    by : (b : Bool) → may_go_to t p ≡ b → NoneAbout (subject p) ps → counted_along t (suc k - 1) ps ≡ map (marked (issued t (suc k - 1) ps)) ps
        → counted_along t (suc k) ps ≡ map (marked (issued t (suc k) ps)) ps → counted_along t (suc k) (p ∷ ps) ≡ map (marked (issued t (suc k) (p ∷ ps))) (p ∷ ps)
    by true may none fewer same =
        let given = issued t (suc k - 1) ps in
        let itself : (subject p == subject p) ≡ true = grind arith in
        let first : marked (p.sourced ∷ given) p ≡ once_more p = ap (λ b. cond (b || list_any (λ s. s.change.address == subject p) given) (once_more p) p) itself in
        let here : map (marked (p.sourced ∷ given)) (p ∷ ps) ≡ once_more p ∷ counted_along t (suc k - 1) ps = λ j. first j ∷ (map-marked p.sourced given ps none ∙ sym fewer) j in
        counted_along-cons_yes t (suc k) p ps (omega arith) may ∙ sym here ∙ sym (ap (λ l. map (marked l) (p ∷ ps)) (issued-cons_yes t (suc k) p ps (omega arith) may))
    by false may none fewer same =
        let given = issued t (suc k) ps in
        let first : marked given p ≡ p = ap (λ b. cond b (once_more p) p) (none_issued t (suc k) (subject p) ps none) in
        let here : map (marked given) (p ∷ ps) ≡ p ∷ counted_along t (suc k) ps = λ j. first j ∷ sym same j in
        counted_along-cons_no t (suc k) p ps may ∙ sym here ∙ sym (ap (λ l. map (marked l) (p ∷ ps)) (issued-cons_no t (suc k) p ps may))

-- each issue adds one to the counts
sum_by-counted_along : (t k : ℕ) (ps : List Pending) → sum_by (λ p. p.count) (counted_along t k ps) ≡ sum_by (λ p. p.count) ps + length (issued t k ps)
sum_by-counted_along t zero ps = let same = ap (sum_by (λ p. p.count)) (counted_along-none t ps) in same ∙ omega arith
sum_by-counted_along t (suc k) [] = refl
sum_by-counted_along t (suc k) (p ∷ ps) = by (may_go_to t p) refl (sum_by-counted_along t (suc k - 1) ps) (sum_by-counted_along t (suc k) ps)
  where
    by : (b : Bool) → may_go_to t p ≡ b → sum_by (λ p. p.count) (counted_along t (suc k - 1) ps) ≡ sum_by (λ p. p.count) ps + length (issued t (suc k - 1) ps)
        → sum_by (λ p. p.count) (counted_along t (suc k) ps) ≡ sum_by (λ p. p.count) ps + length (issued t (suc k) ps)
        → sum_by (λ p. p.count) (counted_along t (suc k) (p ∷ ps)) ≡ sum_by (λ p. p.count) (p ∷ ps) + length (issued t (suc k) (p ∷ ps))
    by true may fewer same =
        let now = ap (sum_by (λ p. p.count)) (counted_along-cons_yes t (suc k) p ps (omega arith) may) ∙ sum_by-cons (λ p. p.count) (once_more p) (counted_along t (suc k - 1) ps) in
        let before = sum_by-cons (λ p. p.count) p ps in
        let given : length (issued t (suc k) (p ∷ ps)) ≡ suc (length (issued t (suc k - 1) ps)) = ap length (issued-cons_yes t (suc k) p ps (omega arith) may) in
        now ∙ (omega (arith, fewer) ∙ (λ j. sym before j + sym given j))
    by false may fewer same =
        let now = ap (sum_by (λ p. p.count)) (counted_along-cons_no t (suc k) p ps may) ∙ sum_by-cons (λ p. p.count) p (counted_along t (suc k) ps) in
        let before = sum_by-cons (λ p. p.count) p ps in
        let given : length (issued t (suc k) (p ∷ ps)) ≡ length (issued t (suc k) ps) = ap length (issued-cons_no t (suc k) p ps may) in
        now ∙ (omega (arith, same) ∙ (λ j. sym before j + sym given j))

pub sum_by-counted : (t k : ℕ) (ps : List Pending) → OnePerAddress ps → sum_by (λ p. p.count) (counted t k ps) ≡ sum_by (λ p. p.count) ps + length (issued t k ps)
sum_by-counted t k ps one = sym (ap (sum_by (λ p. p.count)) (counted_along-is t k ps one)) ∙ sum_by-counted_along t k ps
