-- The number with which bytes begin, read digit by digit.
use Rattle.std.proofs.Common.{◌≡◌, ℕ, zero, suc, ◌+◌, ◌*◌, ◌-◌, ◌/◌, ◌%◌, ◌^◌, ◌<◌, ◌≤◌, ◌==◌, ◌&&◌, true, false, cond, nat_lt, List, [], ◌∷◌, ◌++◌, Option, Some, None, arith, refl, inl, inr, sym, ◌∙◌, ap, append_assoc}
use Rattle.std.specs.Fmt.{decimal}
use Rattle.std.proofs.lemmas.Grind.{common_steps}
use Rattle.std.proofs.lemmas.Bool.{cases_order}
use Rattle.std.proofs.lemmas.Bool.Decides.{nat_tests}
use Rattle.std.proofs.lemmas.Fmt.{decimal_by_steps, decimal_digit}
use Rattle.change_core.specs.Numeral.{IsDigitByte, StopsDigits}
use Rattle.change_core.specs.Printing.{upto}
use Rattle.change_core.proofs.DecimalTexts.{upto_more}

-- what is read where no digit follows those that come to n
abbrev pub stopped : ℕ → List ℕ → Option (ℕ × List ℕ)
stopped n xs = cond (n == 0) None (Some (n, xs))

-- what is read of bytes behind digits that come to n: as far as digits go, a zero alone, and at most `most`
pub scan : ℕ → ℕ → List ℕ → Option (ℕ × List ℕ)
scan most n [] = stopped n []
scan most n (x ∷ xs) = cond (nat_lt 47 x && nat_lt x 58) (cond (10 * n + (x - 48) == 0) (Some (0, xs)) (cond (nat_lt most (10 * n + (x - 48))) None (scan most (10 * n + (x - 48)) xs))) (stopped n (x ∷ xs))

-- behind a digit
abbrev pub scanned : ℕ → ℕ → List ℕ → Option (ℕ × List ℕ)
scanned most n xs = cond (n == 0) (Some (0, xs)) (cond (nat_lt most n) None (scan most n xs))

is_digit : (d : ℕ) → d < 10 → (nat_lt 47 (48 + d) && nat_lt (48 + d) 58) ≡ true
is_digit d h = grind (arith, common_steps, nat_tests)

no_digit : (x : ℕ) → (IsDigitByte x → ⊥) → (nat_lt 47 x && nat_lt x 58) ≡ false
no_digit x h = elim (cases_order x 47) [
  | inl same ↦ grind (arith, common_steps, nat_tests)
  | inr (inl below) ↦ grind (arith, common_steps, nat_tests)
  | inr (inr above) ↦ elim (cases_order x 57) [
    | inl same ↦ absurd (h (omega arith, omega arith))
    | inr (inl below) ↦ absurd (h (omega arith, omega arith))
    | inr (inr above) ↦ grind (arith, common_steps, nat_tests)
  ]
]

pub scan_digit : (most n d : ℕ) (xs : List ℕ) → d < 10 → scan most n ((48 + d) ∷ xs) ≡ scanned most (10 * n + d) xs
unfolding scan
scan_digit most n d xs h = let low : (48 + d) - 48 ≡ d = omega arith in rw (is_digit d h, low) refl

pub scan_stop : (most n : ℕ) (xs : List ℕ) → StopsDigits xs → scan most n xs ≡ stopped n xs
unfolding scan
scan_stop most n [] h = refl
scan_stop most n (x ∷ xs) h = rw (no_digit x h) refl

pub scanned_more : (most n : ℕ) (xs : List ℕ) → 0 < n → n ≤ most → scanned most n xs ≡ scan most n xs
scanned_more most n xs some few =
    let other : (n == 0) ≡ false = grind (arith, common_steps, nat_tests) in
    let within : nat_lt most n ≡ false = grind (arith, common_steps, nat_tests) in
    rw (other, within) refl

-- the digits of a number come to it
scan_digits : (most n : ℕ) → n < 2 ^ 64 → (xs : List ℕ) → 0 < n → n ≤ most → scan most 0 (decimal n ++ xs) ≡ scan most n xs
scan_digits most n small = decimal_by_steps (λ n ds. (xs : List ℕ) → 0 < n → n ≤ most → scan most 0 (ds ++ xs) ≡ scan most n xs)
    (λ n below xs some few. (let same : 10 * 0 + n ≡ n = omega arith in scan_digit most 0 n xs below ∙ ap (λ m. scanned most m xs) same ∙ scanned_more most n xs some few))
    (λ n ds large before xs some few.
    let prefix : scan most 0 (ds ++ (48 + n % 10) ∷ xs) ≡ scan most (n / 10) ((48 + n % 10) ∷ xs) = before ((48 + n % 10) ∷ xs) (omega arith) (omega arith) in
    let whole : 10 * (n / 10) + n % 10 ≡ n = omega arith in
    ap (scan most 0) (append_assoc ds ((48 + n % 10) ∷ []) xs) ∙ prefix ∙ scan_digit most (n / 10) (n % 10) xs (omega arith) ∙ ap (λ m. scanned most m xs) whole ∙ scanned_more most n xs some few)
    n small

pub stopped_some : (n : ℕ) (xs : List ℕ) → 0 < n → stopped n xs ≡ Some (n, xs)
stopped_some n xs some = let other : (n == 0) ≡ false = grind (arith, common_steps, nat_tests) in rw other refl

-- a number's own text is read, where no digit follows
pub scan_exact : (most n : ℕ) (bs xs : List ℕ) → most < 2 ^ 16 → n ≤ most → StopsDigits xs → bs ≡ decimal n ++ xs → scan most 0 bs ≡ Some (n, xs)
scan_exact most zero bs xs bound few stops e = ap (scan most 0) (e ∙ ap (λ z. z ++ xs) (decimal_digit 0 (omega arith))) ∙ scan_digit most 0 0 xs (omega arith)
scan_exact most (suc n) bs xs bound few stops e = ap (scan most 0) e ∙ scan_digits most (suc n) (omega arith) xs (omega arith) few ∙ scan_stop most (suc n) xs stops ∙ stopped_some (suc n) xs (omega arith)

-- one digit more
pub upto_digit : (n d : ℕ) (bs rest xs : List ℕ) → d < 10 → n < 2 ^ 16 → 0 < 10 * n + d → bs ≡ upto n ++ rest → rest ≡ (48 + d) ∷ xs → bs ≡ upto (10 * n + d) ++ xs
upto_digit n d bs rest xs small few some e f =
    let high : (10 * n + d) / 10 ≡ n = omega arith in
    let low : (10 * n + d) % 10 ≡ d = omega arith in
    let text : upto (10 * n + d) ≡ upto n ++ (48 + d) ∷ [] = upto_more (10 * n + d) some (omega arith) ∙ ap (λ m. upto m ++ (48 + (10 * n + d) % 10) ∷ []) high ∙ ap (λ m. upto n ++ (48 + m) ∷ []) low in
    rw (e, f, text) (sym (append_assoc (upto n) ((48 + d) ∷ []) xs))

-- a zero at the front
pub zero_digit : (n d : ℕ) (bs rest xs : List ℕ) → 10 * n + d ≡ 0 → bs ≡ upto n ++ rest → rest ≡ (48 + d) ∷ xs → bs ≡ decimal 0 ++ xs
zero_digit n d bs rest xs none e f =
    let no_number : n ≡ 0 = omega arith in
    let no_digits : d ≡ 0 = omega arith in
    e ∙ ap (λ m. upto m ++ rest) no_number ∙ f ∙ ap (λ m. (48 + m) ∷ xs) no_digits ∙ ap (λ z. z ++ xs) (sym (decimal_digit 0 (omega arith)))

-- what is left to read after one digit more
pub next_digit : (most n d : ℕ) (bs rest xs : List ℕ) → d < 10 → rest ≡ (48 + d) ∷ xs → scan most 0 bs ≡ scan most n rest → scan most 0 bs ≡ scanned most (10 * n + d) xs
next_digit most n d bs rest xs small f left = left ∙ ap (scan most n) f ∙ scan_digit most n d xs small

pub scanned_zero : (most n : ℕ) (xs : List ℕ) → n ≡ 0 → scanned most n xs ≡ Some (0, xs)
scanned_zero most n xs none = rw none refl

pub scanned_great : (most n : ℕ) (xs : List ℕ) → most < n → scanned most n xs ≡ None
scanned_great most n xs great =
    let other : (n == 0) ≡ false = grind (arith, common_steps, nat_tests) in
    let over : nat_lt most n ≡ true = grind (arith, common_steps, nat_tests) in
    rw (other, over) refl

pub stopped_none : (n : ℕ) (xs : List ℕ) → n ≡ 0 → stopped n xs ≡ None
stopped_none n xs none = rw none refl

abbrev number_in : Option (ℕ × List ℕ) → ℕ
number_in None = 0
number_in (Some p) = p.0

abbrev rest_in : Option (ℕ × List ℕ) → List ℕ
rest_in None = []
rest_in (Some p) = p.1

same_pair : (p q : ℕ × List ℕ) → Some p ≡ Some q → (p.0 ≡ q.0) × (p.1 ≡ q.1)
same_pair p q e = (ap number_in e, ap rest_in e)

none_not_pair : (p : ℕ × List ℕ) → None ≡ Some p → ⊥
none_not_pair p e = cc

-- what was read of a number's own text
pub same_read : (most m n : ℕ) (bs xs ys : List ℕ) → scan most 0 bs ≡ Some (m, xs) → most < 2 ^ 16 → n ≤ most → StopsDigits ys → bs ≡ decimal n ++ ys → (m ≡ n) × (xs ≡ ys)
same_read most m n bs xs ys read bound few stops e = same_pair (m, xs) (n, ys) (sym read ∙ scan_exact most n bs ys bound few stops e)

pub not_read : (most n : ℕ) (bs ys : List ℕ) → scan most 0 bs ≡ None → most < 2 ^ 16 → n ≤ most → StopsDigits ys → bs ≡ decimal n ++ ys → ⊥
not_read most n bs ys read bound few stops e = none_not_pair (n, ys) (sym read ∙ scan_exact most n bs ys bound few stops e)
