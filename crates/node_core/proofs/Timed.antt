-- The timer of an address, once another is set or cleared.
use Rattle.std.proofs.Common.{◌≡◌, ◌≢◌, ℕ, ◌+◌, Bool, true, false, cond, not, eqb, ltb, List, [], ◌∷◌, ◌++◌, Option, Some, None, refl, sym, ◌∙◌, ap, inl, inr, arith, ◌⊎◌}
use Rattle.std.specs.Prelude.{filter, nat_lt}
use Rattle.std.proofs.lemmas.Bool.{eqb-true, eq-eqb, ne_eqb, lt-ltb, le-ltb, cases_order}
use Rattle.change_core.specs.declared.changes.Change.{Change}
use Rattle.change_core.specs.Ascending.{In}
use Rattle.change_core.proofs.Order.{in_append, in_filter}
use Rattle.detector_core.specs.declared.timers.Timer.{Timer}
use Rattle.detector_core.specs.Timers.{with_timer, without_timer}
use Rattle.node_core.specs.declared.configs.Config.{Config}
use Rattle.node_core.specs.Expiring.{timer_of}
use Rattle.node_core.specs.Node.{is_timed, next_status, timers_with, wait_for}

abbrev or_else : Option Timer → Option Timer → Option Timer
or_else None t = t
or_else (Some s) t = Some s

timer_of-append : (ts us : List Timer) (a : ℕ) → timer_of (ts ++ us) a ≡ or_else (timer_of ts a) (timer_of us a)
timer_of-append [] us a = refl
timer_of-append (t ∷ ts) us a = by_address (eqb t.address a) (timer_of-append ts us a)
  where
    by_address : (b : Bool) → timer_of (ts ++ us) a ≡ or_else (timer_of ts a) (timer_of us a) → cond b (Some t) (timer_of (ts ++ us) a) ≡ or_else (cond b (Some t) (timer_of ts a)) (timer_of us a)
    by_address true again = refl
    by_address false again = again

timer_of-filter : (test : ℕ → Bool) (ts : List Timer) (a : ℕ) → timer_of (filter (λ u. test u.address) ts) a ≡ cond (test a) (timer_of ts a) None
timer_of-filter test [] a = none (test a)
  where
    none : (b : Bool) → ◌≡◌ {A = Option Timer} None (cond b None None)
    none true = refl
    none false = refl
timer_of-filter test (t ∷ ts) a = by_test (test t.address) refl (eqb t.address a) refl (timer_of-filter test ts a)
  where
    by_test : (b : Bool) → test t.address ≡ b → (d : Bool) → eqb t.address a ≡ d → timer_of (filter (λ u. test u.address) ts) a ≡ cond (test a) (timer_of ts a) None
        → timer_of (cond b (t ∷ filter (λ u. test u.address) ts) (filter (λ u. test u.address) ts)) a ≡ cond (test a) (cond d (Some t) (timer_of ts a)) None
    by_test true e true f again =
        ap (λ x. cond x (Some t) (timer_of (filter (λ u. test u.address) ts) a)) f
        ∙ ap (λ x. cond x (Some t) None) (sym (ap test (sym (eqb-true t.address a f)) ∙ e))
    by_test true e false f again = ap (λ x. cond x (Some t) (timer_of (filter (λ u. test u.address) ts) a)) f ∙ again
    by_test false e true f again =
        let off : test a ≡ false = ap test (sym (eqb-true t.address a f)) ∙ e in
        again ∙ ap (λ x. cond x (timer_of ts a) None) off ∙ sym (ap (λ x. cond x (Some t) None) off)
    by_test false e false f again = again

pub timer_of-without_here : (ts : List Timer) (a : ℕ) → timer_of (without_timer ts a) a ≡ None
timer_of-without_here ts a = timer_of-filter (λ x. not (eqb x a)) ts a ∙ ap (λ b. cond (not b) (timer_of ts a) None) (eq-eqb a a refl)

pub timer_of-without : (ts : List Timer) (b a : ℕ) → b ≢ a → timer_of (without_timer ts b) a ≡ timer_of ts a
timer_of-without ts b a h = timer_of-filter (λ x. not (eqb x b)) ts a ∙ ap (λ y. cond (not y) (timer_of ts a) None) (ne_eqb a b (λ e. h (sym e)))

with-parts : (ts : List Timer) (t : Timer) (a : ℕ) → timer_of (with_timer ts t) a
    ≡ or_else (cond (ltb a t.address) (timer_of ts a) None) (cond (eqb t.address a) (Some t) (cond (ltb t.address a) (timer_of ts a) None))
with-parts ts t a =
    timer_of-append (filter (λ u. nat_lt u.address t.address) ts) (t ∷ filter (λ u. nat_lt t.address u.address) ts) a
    ∙ ap (λ x. or_else x (timer_of (t ∷ filter (λ u. nat_lt t.address u.address) ts) a)) (timer_of-filter (λ x. ltb x t.address) ts a)
    ∙ ap (λ x. or_else (cond (ltb a t.address) (timer_of ts a) None) (cond (eqb t.address a) (Some t) x)) (timer_of-filter (λ x. ltb t.address x) ts a)

pub timer_of-with_here : (ts : List Timer) (t : Timer) → timer_of (with_timer ts t) t.address ≡ Some t
timer_of-with_here ts t =
    with-parts ts t t.address
    ∙ ap (λ x. or_else (cond x (timer_of ts t.address) None) (cond (eqb t.address t.address) (Some t) (cond (ltb t.address t.address) (timer_of ts t.address) None))) (le-ltb t.address t.address (omega arith))
    ∙ ap (λ x. cond x (Some t) (cond (ltb t.address t.address) (timer_of ts t.address) None)) (eq-eqb t.address t.address refl)

none-last : (o : Option Timer) → or_else o None ≡ o
none-last None = refl
none-last (Some t) = refl

pub timer_of-with : (ts : List Timer) (t : Timer) (a : ℕ) → t.address ≢ a → timer_of (with_timer ts t) a ≡ timer_of ts a
timer_of-with ts t a h =
    with-parts ts t a
    ∙ ap (λ x. or_else (cond (ltb a t.address) (timer_of ts a) None) (cond x (Some t) (cond (ltb t.address a) (timer_of ts a) None))) (ne_eqb t.address a h)
    ∙ elim (cases_order t.address a) as (λ v. or_else (cond (ltb a t.address) (timer_of ts a) None) (cond (ltb t.address a) (timer_of ts a) None) ≡ timer_of ts a) [
      | inl e ↦ absurd (h e)
      | inr k ↦ elim k as (λ v. or_else (cond (ltb a t.address) (timer_of ts a) None) (cond (ltb t.address a) (timer_of ts a) None) ≡ timer_of ts a) [
        | inl l ↦ ap (λ x. or_else (cond x (timer_of ts a) None) (cond (ltb t.address a) (timer_of ts a) None)) (le-ltb a t.address (omega (arith, l)))
            ∙ ap (λ x. cond x (timer_of ts a) None) (lt-ltb t.address a l)
        | inr g ↦ ap (λ x. or_else (cond x (timer_of ts a) None) (cond (ltb t.address a) (timer_of ts a) None)) (lt-ltb a t.address g)
            ∙ ap (λ x. or_else (timer_of ts a) (cond x (timer_of ts a) None)) (le-ltb t.address a (omega (arith, g)))
            ∙ none-last (timer_of ts a)
      ]
    ]

-- a timer that runs once another is set ran before, or is that one
pub In-with_timer : (ts : List Timer) (set t : Timer) → In t (with_timer ts set) → In t ts ⊎ (t ≡ set)
In-with_timer ts set t h = elim (in_append t (filter (λ u. nat_lt u.address set.address) ts) (set ∷ filter (λ u. nat_lt set.address u.address) ts) h) [
  | inl k ↦ inl (in_filter (λ u. nat_lt u.address set.address) t ts k).0
  | inr k ↦ of_back k
]
  where
    of_back : In t (set ∷ filter (λ u. nat_lt set.address u.address) ts) → In t ts ⊎ (t ≡ set)
    of_back (inl e) = inr e
    of_back (inr k) = inl (in_filter (λ u. nat_lt set.address u.address) t ts k).0

-- a timer that runs once there is a new entry ran before, or is of this entry
pub In-timers_with : (own : ℕ) (config : Config) (moment : ℕ) (ts : List Timer) (c : Change) (t : Timer)
    → In t (timers_with own config moment ts c) → In t ts ⊎ ((t.address ≡ c.address) × (t.incarnation ≡ c.incarnation))
In-timers_with own config moment ts c t h = by_timed (is_timed own c) h
  where
    by_timed : (b : Bool)
        → In t (cond b (with_timer ts (record { address = c.address; incarnation = c.incarnation; next = next_status c.status; deadline = moment + wait_for config c.status })) (without_timer ts c.address))
        → In t ts ⊎ ((t.address ≡ c.address) × (t.incarnation ≡ c.incarnation))
    by_timed true k = elim (In-with_timer ts _ t k) [ inl j ↦ inl j | inr e ↦ inr (ap (λ (u : Timer). u.address) e, ap (λ (u : Timer). u.incarnation) e) ]
    by_timed false k = inl (in_filter (λ (u : Timer). not (eqb u.address c.address)) t ts k).0
