-- The action that a request asks for, by the parts of the definition.
use Rattle.std.proofs.Common.{◌≡◌, ◌≢◌, ℕ, ◌+◌, ◌^◌, ◌<◌, ◌≤◌, true, ◌&&◌, ltb, leb, List, [], ◌∷◌, ◌++◌, length, drop, get_or, Option, Some, None, Result, Ok, Err, IfOk, IfErr, MatchOption, is_some, IsUtf8, option_copied, codes, Bor, refl, sym, ap, ◌∙◌, ⊎_elim, arith}
use Rattle.std.proofs.lemmas.Bool.{cases_eq, eq-eqb, ne_eqb, lt-ltb, le-leb, le-ltb, ltb-true, leb-true, and_parts, false_from_ne_true, cond-false}
use Rattle.std.proofs.lemmas.Str.{IsUtf8-from_is_utf8, is_utf8-from_IsUtf8}
use Rattle.std.proofs.lemmas.Str.Parse.{IsNumeralModel, numerals_by_value, tells_all_ascii_digits, parse_plain}
use Rattle.std.specs.Str.{all_ascii_digits, is_utf8}
use Rattle.std.specs.Str.Parse.{digits_value, ParsesUnsigned}
use Rattle.std.specs.Str.Pattern.{FindsTextPrefix}
use Rattle.agent_core.specs.declared.actions.Action.{Action}
use Rattle.agent_core.specs.declared.refusals.Part.TheVariants.{Key, Body}
use Rattle.agent_core.specs.declared.refusals.Refusal.{Refusal}
use Rattle.agent_core.specs.declared.refusals.Refusal.TheVariants.{Malformed, Memory}
use Rattle.agent_core.specs.Requests.{after, asked, body_in, key_of, number_of, open_at}

-- ---- the rest of a text after a prefix

after-append : (p rest : List ℕ) → after p (p ++ rest) ≡ Some rest
after-append [] rest = refl
after-append (x ∷ p) rest = rw (eq-eqb x x refl) (after-append p rest)

after-none : (p s : List ℕ) → ((rest : List ℕ) → s ≢ p ++ rest) → after p s ≡ None
after-none [] s h = absurd (h s refl)
after-none (x ∷ p) [] h = refl
after-none (x ∷ p) (y ∷ s) h = ⊎_elim
    (λ (e : x ≡ y). rw (eq-eqb x y e) (after-none p s (λ rest q. h rest (cc))))
    (λ (n : x ≡ y → ⊥). rw (ne_eqb x y n) refl)
    (cases_eq x y)

-- the result of `strip_prefix`
pub stripped : (p s : List ℕ) (r : Option (Bor (List ℕ)))
    → MatchOption r (FindsTextPrefix p s None) (λ x. (n : ℕ) × FindsTextPrefix p s (Some n) × (x.now ≡ drop n s) × (length x.now + n ≡ length s))
    → option_copied r ≡ after p s
stripped p s None h = sym (after-none p s h)
stripped p s (Some x) h =
    let (n, f, now, fits) = h in
    let split : s ≡ p ++ x.now = f.1 ∙ ap (λ z. p ++ z) (sym now) in
    sym (ap (after p) split ∙ after-append p x.now)

some_of : (r : Option (Bor (List ℕ))) → is_some r ≡ is_some (option_copied r)
some_of None = refl
some_of (Some x) = refl

-- whether there is one
pub has_name : (p s : List ℕ) (r : Option (Bor (List ℕ)))
    → MatchOption r (FindsTextPrefix p s None) (λ x. (n : ℕ) × FindsTextPrefix p s (Some n) × (x.now ≡ drop n s) × (length x.now + n ≡ length s))
    → is_some r ≡ is_some (after p s)
has_name p s r h = some_of r ∙ ap is_some (stripped p s r h)

-- ---- keys and bodies

pub key_of-good : (bytes : List ℕ) → IsUtf8 bytes → 0 < length bytes → length bytes ≤ 1024 → key_of bytes ≡ Ok bytes
key_of-good bytes u some short = rw (is_utf8-from_IsUtf8 bytes u, lt-ltb 0 (length bytes) some, le-leb (length bytes) 1024 short) refl

pub key_of-bad : (bytes : List ℕ) → (IsUtf8 bytes → 0 < length bytes → length bytes ≤ 1024 → ⊥) → key_of bytes ≡ Err (Malformed Key)
key_of-bad bytes h =
    cond-false _ _ _ (false_from_ne_true _ (λ t.
    let (u, some, short) = both bytes t in h u some short))
  where
    both : (bytes : List ℕ) → (is_utf8 bytes && (ltb 0 (length bytes) && leb (length bytes) 1024)) ≡ true → IsUtf8 bytes × (0 < length bytes) × (length bytes ≤ 1024)
    both bytes t =
        let p = and_parts _ _ t in
        let q = and_parts _ _ p.1 in
        (IsUtf8-from_is_utf8 bytes p.0, ltb-true _ _ q.0, leb-true _ _ q.1)

-- a copy of a key
pub copied_key : (bytes : List ℕ) (r : Result (List ℕ) Refusal) → IsUtf8 bytes → 0 < length bytes → length bytes ≤ 1024 → IfOk r (λ t. t ≡ bytes) → IfOk r (λ key. key_of bytes ≡ Ok key)
copied_key bytes (Err e) u some short h = tt
copied_key bytes (Ok key) u some short h = rw h (key_of-good bytes u some short)

pub body_in-bad : (body : List ℕ) → length body ≤ 131072 → ¬ (IsUtf8 body) → body_in body ≡ Err (Malformed Body)
body_in-bad body short h = rw (le-ltb 131072 (length body) short, false_from_ne_true (is_utf8 body) (λ t. h (IsUtf8-from_is_utf8 body t))) refl

-- a copy of a body
pub copied_body : (body : List ℕ) (r : Result (List ℕ) Refusal) → length body ≤ 131072 → IsUtf8 body → IfOk r (λ t. t ≡ body) → IfOk r (λ text. body_in body ≡ Ok text)
copied_body body (Err e) short u h = tt
copied_body body (Ok text) short u h = rw (h, le-ltb 131072 (length body) short, is_utf8-from_IsUtf8 body u) refl

-- ---- counts

own : IsNumeralModel (λ ds. all_ascii_digits ds ≡ true) (digits_value 10)
own = numerals_by_value _ tells_all_ascii_digits

-- the number that `parse` reads of digits without a sign
pub number_of-parsed : (most : ℕ) (digits : List ℕ) (n : ℕ) → ParsesUnsigned {E = ℕ} 64 10 digits (Ok n) → get_or digits 0 0 ≢ 43 → 0 < n → n ≤ most
    → Some n ≡ number_of most digits
number_of-parsed most digits n h unsigned some small =
    let p : ((all_ascii_digits digits ≡ true) × (0 < length digits) × (digits_value 10 digits < 2 ^ 64)) × (n ≡ digits_value 10 digits) = parse_plain own {E = ℕ} 64 digits (Ok n) h unsigned in
    rw (p.0.0, ← p.1, lt-ltb 0 n some, le-leb n most small) refl

pub number_of-unread : (most : ℕ) (digits : List ℕ) → most < 2 ^ 64 → ParsesUnsigned {E = ℕ} 64 10 digits (Err 0) → get_or digits 0 0 ≢ 43 → None ≡ number_of most digits
number_of-unread most digits fits h unsigned =
    let p : ¬ ((all_ascii_digits digits ≡ true) × (0 < length digits) × (digits_value 10 digits < 2 ^ 64)) = parse_plain own {E = ℕ} 64 digits (Err 0) h unsigned in
    sym (cond-false _ _ _ (false_from_ne_true _ (λ t. let (d, c) = and_parts _ _ t in let q = and_parts _ _ c in
    p (d, some digits (ltb-true _ _ q.0), small (digits_value 10 digits) (leb-true _ _ q.1)))))
  where
    some : (digits : List ℕ) → 0 < digits_value 10 digits → 0 < length digits
    some [] h = absurd (omega arith)
    some (c ∷ cs) h = omega arith

    small : (n : ℕ) → n ≤ most → n < 2 ^ 64
    small n h = omega arith

-- ---- requests

pub asked-open : (method path body : List ℕ) (query : Option (List ℕ)) → None ≡ after (codes "/keys/") path → None ≡ after (codes "/owner/") path
    → asked method path query body ≡ open_at method path query body
asked-open method path body query k e = rw (← k, ← e) refl

-- a result that is the action at a path, or a fault, is that of the request
pub answered-open : (r asks x : Result Action Refusal) → asks ≡ x → IfOk r (λ action. x ≡ Ok action) → IfErr r (λ e. e ≢ Memory → x ≡ Err e)
    → IfOk r (λ action. asks ≡ Ok action) × IfErr r (λ e. e ≢ Memory → asks ≡ Err e)
answered-open (Ok action) asks x e ok err = (e ∙ ok, tt)
answered-open (Err refusal) asks x e ok err = (tt, λ n. e ∙ err n)
