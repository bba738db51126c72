-- How long decimal numbers and addresses are.
use Rattle.std.proofs.Common.{◌≡◌, ℕ, List, ◌+◌, ◌/◌, ◌%◌, ◌^◌, ◌<◌, ◌≤◌, [], ◌∷◌, ◌++◌, ap, sym, ◌∙◌, append_assoc, append-nil, arith, inl, inr, refl, zero, suc}
use Rattle.std.specs.Fmt.{decimal}
use Rattle.change_core.specs.Address.{address_text, ip_of, port_of, IsAddress}
use Rattle.change_core.specs.IpText.{address_decimals}
use Rattle.change_core.proofs.AddressTexts.{address_text-decimals}
use Rattle.std.proofs.lemmas.Bool.{cases_order}
use Rattle.std.proofs.lemmas.Fmt.{decimal_step, decimal_digit}
use Rattle.change_core.specs.Printing.{upto}

pub upto_is : (n : ℕ) → 0 < n → upto n ≡ decimal n
upto_is zero h = absurd (omega arith)
upto_is (suc n) h = refl

small_digit : (n : ℕ) → n < 10 → decimal n ≡ upto (n / 10) ++ (48 + n % 10) ∷ []
small_digit n h = let none : n / 10 ≡ 0 = omega arith in let low : n % 10 ≡ n = omega arith in rw (none, low) (decimal_digit n h)

large_number : (n : ℕ) → 10 ≤ n → n < 2 ^ 32 → decimal n ≡ upto (n / 10) ++ (48 + n % 10) ∷ []
large_number n h small = let some : 0 < n / 10 = omega arith in rw (upto_is (n / 10) some) (decimal_step n h (omega arith))

decimal_last : (n : ℕ) → n < 2 ^ 32 → decimal n ≡ upto (n / 10) ++ (48 + n % 10) ∷ []
decimal_last n small = elim (cases_order n 10) [
  | inl same ↦ large_number n (omega arith) small
  | inr apart ↦ elim apart [
    | inl below ↦ small_digit n below
    | inr above ↦ large_number n (omega arith) small
  ]
]

pub upto_more : (n : ℕ) → 0 < n → n < 2 ^ 32 → upto n ≡ upto (n / 10) ++ (48 + n % 10) ∷ []
upto_more n some small = upto_is n some ∙ decimal_last n small

-- the text of an address, part by part
pub text_parts : (o : List ℕ) (a ip port p : ℕ) (t1 t2 t3 t4 t5 : List ℕ) → IsAddress a → ip ≡ ip_of a → port ≡ port_of a → p ≡ port →
    t1 ≡ o ++ (decimal (ip / 16777216 % 256) ++ 46 ∷ []) → t2 ≡ t1 ++ (decimal (ip / 65536 % 256) ++ 46 ∷ []) → t3 ≡ t2 ++ (decimal (ip / 256 % 256) ++ 46 ∷ []) → t4 ≡ t3 ++ (decimal (ip % 256) ++ 58 ∷ []) → t5 ≡ t4 ++ decimal p →
    t5 ≡ o ++ address_text a
text_parts o a ip port p t1 t2 t3 t4 t5 v e f h e1 e2 e3 e4 e5 =
    let one : ip_of a / 1 ≡ ip_of a = omega arith in
    let parts : t5 ≡ o ++ address_decimals a = rw (e5, e4, e3, e2, e1, h, f, e, one) (simp append_assoc) in
    parts ∙ ap (λ z. o ++ z) (sym (address_text-decimals a v))

-- the last digit goes behind those before it
pub upto_step : (t0 t1 t2 : List ℕ) (n d : ℕ) → t1 ≡ t0 ++ upto (n / 10) → d ≡ 48 + n % 10 → t2 ≡ t1 ++ d ∷ [] → 0 < n → n < 2 ^ 32 → t2 ≡ t0 ++ upto n
upto_step t0 t1 t2 n d e f g some small = rw (g, e, f) (append_assoc t0 (upto (n / 10)) _ ∙ ap (λ t. t0 ++ t) (sym (upto_more n some small)))

pub upto_none : (t0 t1 : List ℕ) (n : ℕ) → t1 ≡ t0 ++ upto (n / 10) → n ≡ 0 → t1 ≡ t0 ++ upto n
upto_none t0 t1 n e z = e ∙ ap (λ m. t0 ++ upto m) (omega arith)

-- a number's text is that of what stands before its last digit, and that digit
pub decimal_upto : (t0 t1 t2 : List ℕ) (n d : ℕ) → t1 ≡ t0 ++ upto (n / 10) → d ≡ 48 + n % 10 → t2 ≡ t1 ++ d ∷ [] → n < 2 ^ 32 → t2 ≡ t0 ++ decimal n
decimal_upto t0 t1 t2 n d e f g small = rw (g, e, f) (append_assoc t0 (upto (n / 10)) _ ∙ ap (λ t. t0 ++ t) (sym (decimal_last n small)))

pub upto_start : (t : List ℕ) (n : ℕ) → n ≡ 0 → t ≡ t ++ upto n
upto_start t n z = sym (ap (λ m. t ++ upto m) z ∙ append-nil t)
