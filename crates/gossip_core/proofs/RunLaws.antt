-- How often a change is issued from one put to the next for its address: what its count leaves to the greatest limit falls by one with each issue.
use Rattle.std.proofs.Common.{◌≡◌, ℕ, zero, suc, ◌+◌, ◌-◌, ◌<◌, ◌≤◌, ◌≢◌, ◌==◌, Bool, true, false, nat_lt, cond, List, [], ◌∷◌, refl, sym, ap, ◌∙◌, subst, All, count_by, arith, eqb-true}
use Rattle.std.proofs.Math.Nat.{le-max_left, le-max_right}
use Rattle.std.proofs.lemmas.Bool.{ne_eqb, eqb-false}
use Rattle.std.proofs.lemmas.List.Elements.{All-cons, All-nil, All-tail, All-weaker}
use Rattle.std.proofs.lemmas.List.Sums.{sum_by-cons}
use Rattle.change_core.specs.declared.changes.Sourced.{Sourced}
use Rattle.gossip_core.specs.declared.pending.Pending.{Pending}
use Rattle.gossip_core.specs.Dissemination.{Dissemination, with_news, IsWhole}
use Rattle.gossip_core.specs.Pending.{subject, fresh, put_pending, may_go_to, issued, counted, below, limit_for, NoneAbout, OnePerAddress, AllBelow}
use Rattle.gossip_core.specs.Runs.{Event, after, times_issued, greatest_limit, IsElsewhere}
use Rattle.gossip_core.proofs.PendingLemmas.{counted_along, counted_along-none, counted_along-cons_yes, counted_along-cons_no, issued-cons_yes, issued-cons_no, AllBelow-below, AllBelow-put_pending, OnePerAddress-counted_along}
use Rattle.gossip_core.proofs.IssueLaws.{counted_along-is}
use Rattle.gossip_core.proofs.PendingLaws.{OnePerAddress-put_pending, OnePerAddress-below}

-- what the counts of the changes about a leave to `most`
abbrev left_of : ℕ → ℕ → Pending → ℕ
left_of a most p = cond (subject p == a) (most - p.count) 0

abbrev left : ℕ → ℕ → List Pending → ℕ
left a most [] = 0
left a most (p ∷ ps) = left_of a most p + left a most ps

-- each pending change about a has been issued less often than that
abbrev IsLeft : ℕ → ℕ → List Pending → Type 0
IsLeft a most ps = All (λ p. subject p ≡ a → p.count < most) ps

-- how many of these are about a
abbrev number_about : ℕ → List Sourced → ℕ
number_about a given = count_by (λ s. s.change.address == a) given

-- each issue takes one of what is left
left-counted_along : (a most t k : ℕ) (ps : List Pending) → IsLeft a most ps → number_about a (issued t k ps) + left a most (counted_along t k ps) ≡ left a most ps
left-counted_along a most t zero ps h = let same = ap (left a most) (counted_along-none t ps) in omega (arith, same)
left-counted_along a most t (suc k) [] h = refl
left-counted_along a most t (suc k) (p ∷ ps) h =
    let rest = All-tail (λ p. subject p ≡ a → p.count < most) p ps h in
    by (may_go_to t p) refl (h 0 p (omega arith)) (left-counted_along a most t (suc k - 1) ps rest) (left-counted_along a most t (suc k) ps rest)
  where
    taken : (b : Bool) → (subject p == a) ≡ b → (subject p ≡ a → p.count < most) → cond b 1 0 + cond b (most - (p.count + 1)) 0 ≡ cond b (most - p.count) 0
    taken true same less = let under : p.count < most = less (eqb-true (subject p) a same) in omega (arith, under)
    taken false same less = refl

    by : (b : Bool) → may_go_to t p ≡ b → (subject p ≡ a → p.count < most)
        → number_about a (issued t (suc k - 1) ps) + left a most (counted_along t (suc k - 1) ps) ≡ left a most ps
        → number_about a (issued t (suc k) ps) + left a most (counted_along t (suc k) ps) ≡ left a most ps
        → number_about a (issued t (suc k) (p ∷ ps)) + left a most (counted_along t (suc k) (p ∷ ps)) ≡ left a most (p ∷ ps)
    by true may less fewer same =
        let given : number_about a (issued t (suc k) (p ∷ ps)) ≡ cond (subject p == a) 1 0 + number_about a (issued t (suc k - 1) ps) =
        ap (number_about a) (issued-cons_yes t (suc k) p ps (omega arith) may) ∙ sum_by-cons (λ s. cond (s.change.address == a) 1 0) p.sourced (issued t (suc k - 1) ps) in
        let now : left a most (counted_along t (suc k) (p ∷ ps)) ≡ cond (subject p == a) (most - (p.count + 1)) 0 + left a most (counted_along t (suc k - 1) ps) =
        ap (left a most) (counted_along-cons_yes t (suc k) p ps (omega arith) may) in
        omega (arith, given, now, fewer, taken (subject p == a) refl less)
    by false may less fewer same =
        let given : number_about a (issued t (suc k) (p ∷ ps)) ≡ number_about a (issued t (suc k) ps) = ap (number_about a) (issued-cons_no t (suc k) p ps may) in
        let now : left a most (counted_along t (suc k) (p ∷ ps)) ≡ left_of a most p + left a most (counted_along t (suc k) ps) = ap (left a most) (counted_along-cons_no t (suc k) p ps may) in
        omega (arith, given, now, same)

left-counted : (a most t k : ℕ) (ps : List Pending) → OnePerAddress ps → IsLeft a most ps → number_about a (issued t k ps) + left a most (counted t k ps) ≡ left a most ps
left-counted a most t k ps one h = subst (λ l. number_about a (issued t k ps) + left a most l ≡ left a most ps) (counted_along-is t k ps one) (left-counted_along a most t k ps h)

-- what goes leaves nothing
left-below : (a most limit : ℕ) (ps : List Pending) → left a most (below limit ps) ≤ left a most ps
left-below a most limit [] = omega arith
left-below a most limit (p ∷ ps) = by (nat_lt p.count limit) (left-below a most limit ps)
  where
    by : (b : Bool) → left a most (below limit ps) ≤ left a most ps → left a most (cond b (p ∷ below limit ps) (below limit ps)) ≤ left_of a most p + left a most ps
    by true rest = omega (arith, rest)
    by false rest = omega (arith, rest)

-- a change about another address leaves nothing for a
left_of-other : (a most : ℕ) (p : Pending) → subject p ≢ a → left_of a most p ≡ 0
left_of-other a most p other = ap (λ b. cond b (most - p.count) 0) (ne_eqb (subject p) a other)

left-none : (a most : ℕ) (ps : List Pending) → NoneAbout a ps → left a most ps ≡ 0
left-none a most [] none = refl
left-none a most (p ∷ ps) none =
    let first = left_of-other a most p (none 0 p (omega arith)) in
    let rest = left-none a most ps (All-tail (λ p. subject p ≢ a) p ps none) in
    omega (arith, first, rest)

-- a put about another address changes nothing for a
left-put_other : (a most : ℕ) (ps : List Pending) (s : Sourced) → s.change.address ≢ a → left a most (put_pending ps s) ≡ left a most ps
left-put_other a most [] s other = let first = left_of-other a most (fresh s) other in omega (arith, first)
left-put_other a most (p ∷ ps) s other = by (s.change.address == subject p) refl (left_of-other a most (fresh s) other) (left-put_other a most ps s other)
  where
    by : (b : Bool) → (s.change.address == subject p) ≡ b → left_of a most (fresh s) ≡ 0 → left a most (put_pending ps s) ≡ left a most ps
        → left a most (cond b (fresh s ∷ ps) (p ∷ put_pending ps s)) ≡ left_of a most p + left a most ps
    by true same new rest =
        let here : s.change.address ≡ subject p = eqb-true s.change.address (subject p) same in
        let old : left_of a most p ≡ 0 = left_of-other a most p (λ e. other (here ∙ e)) in
        omega (arith, old, new)
    by false same new rest = omega (arith, rest)

-- a new change leaves as much as may be
left-put : (most : ℕ) (ps : List Pending) (s : Sourced) → OnePerAddress ps → left s.change.address most (put_pending ps s) ≤ most
left-put most [] s one = new (s.change.address == s.change.address)
  where
    new : (b : Bool) → cond b (most - 0) 0 + 0 ≤ most
    new true = omega arith
    new false = omega arith
left-put most (p ∷ ps) s one =
    let one_rest : OnePerAddress ps = λ i j d h w. one (suc i) (suc j) d (omega arith) (omega arith) in
    by (s.change.address == subject p) refl (λ k d w e. one 0 (suc k) d (omega arith) (omega arith) (sym e)) (left-put most ps s one_rest)
  where
    a : ℕ
    a = s.change.address

    new : (b : Bool) → cond b (most - 0) 0 ≤ most
    new true = omega arith
    new false = omega arith

    by : (b : Bool) → (a == subject p) ≡ b → NoneAbout (subject p) ps → left a most (put_pending ps s) ≤ most → left a most (cond b (fresh s ∷ ps) (p ∷ put_pending ps s)) ≤ most
    by true same none rest =
        let here : a ≡ subject p = eqb-true a (subject p) same in
        let others : left a most ps ≡ 0 = left-none a most ps (subst (λ x. NoneAbout x ps) (sym here) none) in
        let first : left_of a most (fresh s) ≤ most = new (a == a) in
        omega (arith, others, first)
    by false same none rest =
        let other : left_of a most p ≡ 0 = left_of-other a most p (λ e. eqb-false a (subject p) same (sym e)) in
        omega (arith, other, rest)

-- a put about another address
IsLeft-put_other : (a most : ℕ) (ps : List Pending) (s : Sourced) → s.change.address ≢ a → IsLeft a most ps → IsLeft a most (put_pending ps s)
IsLeft-put_other a most [] s other h = All-cons (λ p. subject p ≡ a → p.count < most) (fresh s) [] (λ e. absurd (other e)) (All-nil (λ p. subject p ≡ a → p.count < most))
IsLeft-put_other a most (p ∷ ps) s other h =
    let rest = All-tail (λ p. subject p ≡ a → p.count < most) p ps h in
    elim (s.change.address == subject p) as (λ b. IsLeft a most (cond b (fresh s ∷ ps) (p ∷ put_pending ps s))) [
      | true ↦ All-cons (λ p. subject p ≡ a → p.count < most) (fresh s) ps (λ e. absurd (other e)) rest
      | false ↦ All-cons (λ p. subject p ≡ a → p.count < most) p (put_pending ps s) (h 0 p (omega arith)) (IsLeft-put_other a most ps s other rest)
    ]

IsLeft-from_AllBelow : (a most : ℕ) (ps : List Pending) → AllBelow most ps → IsLeft a most ps
IsLeft-from_AllBelow a most ps h = All-weaker (λ p. p.count < most) (λ p. subject p ≡ a → p.count < most) (λ p h e. h) ps h

IsLeft-le : (a limit most : ℕ) (ps : List Pending) → limit ≤ most → IsLeft a limit ps → IsLeft a most ps
IsLeft-le a limit most ps le h = All-weaker (λ p. subject p ≡ a → p.count < limit) (λ p. subject p ≡ a → p.count < most) (λ p h e. let less = h e in omega (arith, le, less)) ps h

-- no more is issued in a run than is left
times_issued-le : (a most : ℕ) (g : Dissemination) (es : List Event) → greatest_limit g es ≤ most → OnePerAddress g.pending → IsLeft a g.limit g.pending → All (IsElsewhere a) es
    → times_issued a g es ≤ left a most g.pending
times_issued-le a most g [] bound one h elsewhere = omega arith
times_issued-le a most g (e ∷ es) bound one h elsewhere =
    let now : g.limit ≤ most = omega (arith, le-max_left g.limit (greatest_limit (after g e) es), bound) in
    let later : greatest_limit (after g e) es ≤ most = omega (arith, le-max_right g.limit (greatest_limit (after g e) es), bound) in
    by e (elsewhere 0 e (omega arith)) now (λ still k. times_issued-le a most (after g e) es later still k (All-tail (IsElsewhere a) e es elsewhere))
  where
    by : (e : Event) → IsElsewhere a e → g.limit ≤ most → (OnePerAddress (after g e).pending → IsLeft a (after g e).limit (after g e).pending → times_issued a (after g e) es ≤ left a most (after g e).pending)
        → times_issued a g (e ∷ es) ≤ left a most g.pending
    by (Event.Puts s) other now rest =
        let then_left = rest (OnePerAddress-put_pending g.pending s one) (IsLeft-put_other a g.limit g.pending s other h) in
        omega (arith, then_left, left-put_other a most g.pending s other)
    by (Event.Adjusts n) other now rest =
        let limit = limit_for g.factor n in
        let then_left = rest (OnePerAddress-below limit g.pending one) (IsLeft-from_AllBelow a limit (below limit g.pending) (AllBelow-below limit g.pending)) in
        omega (arith, then_left, left-below a most limit g.pending)
    by (Event.Issues t k) other now rest =
        let still = subst OnePerAddress (counted_along-is t k g.pending one) (OnePerAddress-counted_along t k g.pending one) in
        let then_left = rest (OnePerAddress-below g.limit (counted t k g.pending) still) (IsLeft-from_AllBelow a g.limit (below g.limit (counted t k g.pending)) (AllBelow-below g.limit (counted t k g.pending))) in
        omega (arith, then_left, left-below a most g.limit (counted t k g.pending), left-counted a most t k g.pending one (IsLeft-le a g.limit most g.pending now h))

-- from a put on
pub times_issued-put : (g : Dissemination) (s : Sourced) (es : List Event) → IsWhole g → All (IsElsewhere s.change.address) es
    → times_issued s.change.address (with_news g s) es ≤ greatest_limit (with_news g s) es
times_issued-put g s es whole elsewhere =
    let a = s.change.address in
    let most = greatest_limit (with_news g s) es in
    let some : 0 < g.limit = omega (arith, whole.bounded.limit_within.0) in
    let unspent = IsLeft-from_AllBelow a g.limit (put_pending g.pending s) (AllBelow-put_pending g.limit g.pending s some whole.bounded.unspent) in
    omega (arith, times_issued-le a most (with_news g s) es (omega arith) (OnePerAddress-put_pending g.pending s whole.one_each) unspent elsewhere, left-put most g.pending s whole.one_each)
