-- Unpacking a packed answer returns its parts.
use Rattle.std.proofs.Common.{◌≡◌, ℕ, ◌+◌, ◌-◌, ◌*◌, ◌/◌, ◌%◌, ◌≤◌, Bool, true, false, not, ◌&&◌, ◌||◌, List, [], ◌∷◌, ◌++◌, Some, None, decimal, ◌==◌, refl, sym, ap, ap₂, ◌∙◌, ⊎_elim, arith}
use Rattle.std.proofs.lemmas.Bool.{cases_Bool, le-leb, leb-true, and_parts, and_left, or_parts, cond-true, cond-false, eqb-true, eqb-false, not-true, false_from_ne_true}
use Rattle.std.proofs.lemmas.Fmt.{decimal_digit, decimal_step}
use Rattle.agent_core.specs.Packs.{Unpacked, behind, header_of, is_marked, is_within, marked, packed, unpacked}

-- the decimal digits of a number from 100 to 999
pub decimal_three : (n : ℕ) → 100 ≤ n → n ≤ 999 → decimal n ≡ (48 + n / 100) ∷ (48 + n / 10 % 10) ∷ (48 + n % 10) ∷ []
decimal_three n low high =
    let tens : n / 10 / 10 ≡ n / 100 = omega arith in
    decimal_step n (omega arith) (omega arith)
    ∙ ap (λ z. z ++ (48 + n % 10) ∷ []) (decimal_step (n / 10) (omega arith) (omega arith)
    ∙ ap (λ z. z ++ (48 + n / 10 % 10) ∷ []) (decimal_digit (n / 10 / 10) (omega arith) ∙ ap (λ k. (48 + k) ∷ []) tens))

pub is_within-true : (least greatest x : ℕ) → least ≤ x → x ≤ greatest → is_within least greatest x ≡ true
is_within-true least greatest x low high = rw (le-leb least x low, le-leb x greatest high) refl

-- the header of a marked text
header_of-marked : (status : ℕ) (is_json : Bool) (body : List ℕ) → 200 ≤ status → status ≤ 599 → header_of (marked status is_json body) ≡ Some (status, is_json)
header_of-marked status true body low high =
    let sum : 100 * (48 + status / 100 - 48) + 10 * (48 + status / 10 % 10 - 48) + (48 + status % 10 - 48) ≡ status = omega arith in
    rw (
      decimal_three status (omega arith) (omega arith),
      is_within-true 50 53 (48 + status / 100) (omega arith) (omega arith),
      is_within-true 48 57 (48 + status / 10 % 10) (omega arith) (omega arith),
      is_within-true 48 57 (48 + status % 10) (omega arith) (omega arith),
    )
    (ap (λ k. Some (k, true)) sum)
header_of-marked status false body low high =
    let sum : 100 * (48 + status / 100 - 48) + 10 * (48 + status / 10 % 10 - 48) + (48 + status % 10 - 48) ≡ status = omega arith in
    rw (
      decimal_three status (omega arith) (omega arith),
      is_within-true 50 53 (48 + status / 100) (omega arith) (omega arith),
      is_within-true 48 57 (48 + status / 10 % 10) (omega arith) (omega arith),
      is_within-true 48 57 (48 + status % 10) (omega arith) (omega arith),
    )
    (ap (λ k. Some (k, false)) sum)

-- a marked text is unpacked to its parts
unpacked-marked : (status : ℕ) (is_json : Bool) (body : List ℕ) → 200 ≤ status → status ≤ 599
    → unpacked (marked status is_json body) ≡ record { status = status; is_json = is_json; body = body }
unpacked-marked status is_json body low high =
    ap (behind (marked status is_json body)) (header_of-marked status is_json body low high)
    ∙ ap (λ b. record { status = status; is_json = is_json; body = b }) (rw (decimal_three status (omega arith) (omega arith)) refl)

-- a mark is in the range from 1 to 2 only if it is 1 or 2
not_within : (mark : ℕ) → is_within 1 2 mark ≡ true → ((mark == 1) || (mark == 2)) ≡ false → ⊥
not_within mark within unmarked =
    let p = and_parts _ _ within in
    let q = or_parts _ _ unmarked in
    let low : 1 ≤ mark = leb-true 1 mark p.0 in
    let high : mark ≤ 2 = leb-true mark 2 p.1 in
    let not_1 : mark ≡ 1 → ⊥ = eqb-false mark 1 q.0 in
    let not_2 : mark ≡ 2 → ⊥ = eqb-false mark 2 q.1 in
    omega arith

-- a text without a mark has no front
header_of-unmarked : (body : List ℕ) → is_marked body ≡ false → header_of body ≡ None
header_of-unmarked [] h = refl
header_of-unmarked (a ∷ []) h = refl
header_of-unmarked (a ∷ b ∷ []) h = refl
header_of-unmarked (a ∷ b ∷ c ∷ []) h = refl
header_of-unmarked (a ∷ b ∷ c ∷ d ∷ []) h = refl
header_of-unmarked (mark ∷ b ∷ c ∷ d ∷ e ∷ rest) h = cond-false _ _ _ (and_left _ _ (false_from_ne_true _ (λ within. not_within mark within (or_parts _ _ h).0)))

-- the answer of these parts
abbrev answer : List ℕ → ℕ → Bool → Unpacked
answer body status is_json = record { status = status; is_json = is_json; body = body }

pub unpacked-packed : (status : ℕ) (is_json : Bool) (body : List ℕ) → 200 ≤ status → status ≤ 599
    → unpacked (packed status is_json body) ≡ record { status = status; is_json = is_json; body = body }
unpacked-packed status is_json body low high = ⊎_elim
    (λ (whole : ((status == 200) && (not is_json && not (is_marked body))) ≡ true).
    let p = and_parts _ _ whole in
    let q = and_parts _ _ p.1 in
    ap unpacked (cond-true _ body (marked status is_json body) whole)
    ∙ ap (behind body) (header_of-unmarked body (not-true _ q.1))
    ∙ ap₂ (answer body) (sym (eqb-true status 200 p.0)) (sym (not-true _ q.0)))
    (λ (packs : ((status == 200) && (not is_json && not (is_marked body))) ≡ false).
    ap unpacked (cond-false _ body (marked status is_json body) packs) ∙ unpacked-marked status is_json body low high)
    (cases_Bool _)
