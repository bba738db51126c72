-- Words of visible bytes: those of numbers, addresses and statuses, and where a line is split.
use Rattle.std.proofs.Common.{◌≡◌, ℕ, zero, suc, add-one, ◌+◌, ◌-◌, ◌/◌, ◌%◌, ◌<◌, ◌≤◌, ◌^◌, ◌&&◌, Bool, true, false, eqb, ltb, Option, Some, None, Result, Ok, Err, List, [], ◌∷◌, ◌++◌, length, get_or, take, drop, refl, sym, ap, subst, ◌∙◌, arith, inl, inr, length-append}
use Rattle.std.specs.List.{position, position_or_len}
use Rattle.std.specs.Option.{IsSomeAnd}
use Rattle.std.specs.Result.{MatchResult, result_ok}
use Rattle.std.specs.Str.{IsAscii, IsUtf8}
use denote.Ref.{Bor}
use Rattle.std.proofs.lemmas.List.Quantifiers.{position-Some}
use Rattle.std.proofs.lemmas.Bool.{cases_Bool, cases_order, ltb-true, eqb-true}
use Rattle.std.proofs.lemmas.List.{get_or_past}
use Rattle.std.proofs.Math.Seq.{take-append_seam}
use Rattle.std.proofs.lemmas.List.Elements.{All-append, All-cons}
use Rattle.std.proofs.lemmas.Grind.{common_steps}
use Rattle.std.proofs.lemmas.Str.{IsUtf8-from_ascii}
use Rattle.change_core.specs.Address.{address_text, ip_of, port_of}
use Rattle.change_core.specs.Numeral.{number_text}
use Rattle.change_core.specs.Status.{status_word}
use Rattle.change_core.specs.declared.statuses.Status.{Status}
use Rattle.change_core.specs.declared.statuses.Status.TheVariants.{Alive, Suspect, Faulty, Leave, Tombstone}
use Rattle.change_core.proofs.NumberTexts.{Digits, Digits-number_text}
use Rattle.cli_core.specs.ScriptLines.{IsVisible}

abbrev IsSign : ℕ → Type 0
IsSign x = (32 < x) × (x < 128)

visible_nil : IsVisible []
visible_nil = λ k d l. absurd (omega (arith, l))

-- ---- which words are visible

visible_digits : (xs : List ℕ) → Digits xs → IsVisible xs
visible_digits [] h = visible_nil
visible_digits (x ∷ xs) h = All-cons IsSign x xs (omega (arith, h.0.0), omega (arith, h.0.1)) (visible_digits xs h.1)

pub visible_number : (n : ℕ) → IsVisible (number_text n)
visible_number n = visible_digits (number_text n) (Digits-number_text n)

-- a number, a sign and a visible word
numbered : (n x : ℕ) (xs : List ℕ) → 32 < x → x < 128 → IsVisible xs → IsVisible (number_text n ++ x ∷ xs)
numbered n x xs l m h = All-append IsSign (number_text n) (x ∷ xs) (visible_number n) (All-cons IsSign x xs (l, m) h)

pub visible_address : (a : ℕ) → IsVisible (address_text a)
visible_address a =
    let port = visible_number (port_of a) in
    let fourth = numbered (ip_of a % 256) 58 (number_text (port_of a)) (omega arith) (omega arith) port in
    let third = numbered (ip_of a / 256 % 256) 46 (number_text (ip_of a % 256) ++ 58 ∷ number_text (port_of a)) (omega arith) (omega arith) fourth in
    let second =
    numbered (ip_of a / 256 ^ 2 % 256) 46 (number_text (ip_of a / 256 % 256) ++ 46 ∷ (number_text (ip_of a % 256) ++ 58 ∷ number_text (port_of a)))
    (omega arith) (omega arith) third in
    numbered (ip_of a / 256 ^ 3) 46
    (number_text (ip_of a / 256 ^ 2 % 256) ++ 46 ∷ (number_text (ip_of a / 256 % 256) ++ 46 ∷ (number_text (ip_of a % 256) ++ 58 ∷ number_text (port_of a))))
    (omega arith) (omega arith) second

-- the test of it
abbrev pub is_visible : List ℕ → Bool
is_visible [] = true
is_visible (x ∷ xs) = (ltb 32 x && ltb x 128) && is_visible xs

and_true : (a b : Bool) → (a && b) ≡ true → (a ≡ true) × (b ≡ true)
and_true true b e = (refl, e)
and_true false b e = absurd cc

pub visible_tested : (xs : List ℕ) → is_visible xs ≡ true → IsVisible xs
visible_tested [] e = visible_nil
visible_tested (x ∷ xs) e =
    let parts = and_true (ltb 32 x && ltb x 128) (is_visible xs) e in
    let bounds = and_true (ltb 32 x) (ltb x 128) parts.0 in
    All-cons IsSign x xs (ltb-true 32 x bounds.0, ltb-true x 128 bounds.1) (visible_tested xs parts.1)

pub visible_status : (s : Status) → IsVisible (status_word s)
visible_status Alive = visible_tested (status_word Alive) refl
visible_status Suspect = visible_tested (status_word Suspect) refl
visible_status Faulty = visible_tested (status_word Faulty) refl
visible_status Leave = visible_tested (status_word Leave) refl
visible_status Tombstone = visible_tested (status_word Tombstone) refl

visible_ascii : (xs : List ℕ) → IsVisible xs → IsAscii xs
visible_ascii xs h i = elim (cases_order i (length xs)) [
  | inl same ↦ rw (get_or_past xs i 0 (omega (arith, same))) (omega arith)
  | inr apart ↦ elim apart [
    | inl below ↦ (h i 0 below).1
    | inr above ↦ rw (get_or_past xs i 0 (omega (arith, above))) (omega arith)
  ]
]

-- a visible word is text
pub visible_text : (xs : List ℕ) → IsVisible xs → IsUtf8 xs
visible_text xs h = IsUtf8-from_ascii xs (visible_ascii xs h)

-- ---- where a line is split

abbrev is_space : ℕ → Bool
is_space x = eqb x 32

not_space : (x : ℕ) → 32 < x → eqb x 32 ≡ false
not_space x l = elim (cases_Bool (eqb x 32)) [
  | inl t ↦ absurd (omega (arith, l, eqb-true x 32 t))
  | inr f ↦ f
]

All-tail : (x : ℕ) (xs : List ℕ) → IsVisible (x ∷ xs) → IsVisible xs
All-tail x xs h = λ k d l. h (suc k) d (omega (arith, l))

place_of-space : (word rest : List ℕ) → IsVisible word → position_or_len is_space (word ++ 32 ∷ rest) ≡ length word
place_of-space [] rest h = refl
place_of-space (x ∷ xs) rest h =
    let first : eqb x 32 ≡ false = not_space x ((h 0 0 (omega arith)).0) in
    let more = place_of-space xs rest (All-tail x xs h) in
    rw first (omega (arith, more))

place_of-none : (word : List ℕ) → IsVisible word → position_or_len is_space word ≡ length word
place_of-none [] h = refl
place_of-none (x ∷ xs) h =
    let first : eqb x 32 ≡ false = not_space x ((h 0 0 (omega arith)).0) in
    let more = place_of-none xs (All-tail x xs h) in
    rw first (omega (arith, more))

below_test : (m n : ℕ) → m < n → ltb m n ≡ true
below_test m n l = grind arith

not_below_test : (m n : ℕ) → n ≤ m → ltb m n ≡ false
not_below_test m n l = grind arith

pub space_after_word : (line word rest : List ℕ) → IsVisible word → line ≡ word ++ 32 ∷ rest → position is_space line ≡ Some (length word)
space_after_word line word rest h e =
    let place : position_or_len is_space line ≡ length word = ap (position_or_len is_space) e ∙ place_of-space word rest h in
    let long : length line ≡ length word + length (32 ∷ rest) = ap length e ∙ length-append word (32 ∷ rest) in
    let within : length word < length line = omega (arith, long) in
    rw (place, below_test (length word) (length line) within) refl

pub no_space_in_word : (word : List ℕ) → IsVisible word → position is_space word ≡ None
no_space_in_word word h = rw (place_of-none word h, not_below_test (length word) (length word) (omega arith)) refl

-- what stands before the space, and behind it
pub before_space : (line word rest : List ℕ) (i : ℕ) → line ≡ word ++ 32 ∷ rest → i ≡ length word → take i line ≡ word
before_space line word rest i e l = rw (e, l) (take-append_seam word (32 ∷ rest))

pub behind_space : (line word rest : List ℕ) (i : ℕ) → line ≡ word ++ 32 ∷ rest → i ≡ length word → drop (i + 1) line ≡ rest
behind_space line word rest i e l = rw (e, l, add-one) (behind word rest)
  where
    behind : (word rest : List ℕ) → drop (suc (length word)) (word ++ 32 ∷ rest) ≡ rest
    behind [] rest = refl
    behind (x ∷ xs) rest = behind xs rest

-- all that is left behind a place
pub tail_whole : (xs : List ℕ) (i : ℕ) → take (length xs - i) (drop i xs) ≡ drop i xs
tail_whole xs i = grind (arith, common_steps)

-- ---- the same of what `position` gave

pub none_found : (line word rest : List ℕ) → None ≡ position is_space line → IsVisible word → line ≡ word ++ 32 ∷ rest → ⊥
none_found line word rest none h e = let found = space_after_word line word rest h e in no (length word) (none ∙ found)
  where
    no : (n : ℕ) → None ≡ Some n → ⊥
    no n q = cc

pub some_found : (line word rest : List ℕ) (i : ℕ) → Some i ≡ position is_space line → IsVisible word → line ≡ word ++ 32 ∷ rest → i ≡ length word
some_found line word rest i some h e = same i (length word) (some ∙ space_after_word line word rest h e)
  where
    same : (m n : ℕ) → Some m ≡ Some n → m ≡ n
    same m n q = cc

pub some_alone : (line : List ℕ) (i : ℕ) → Some i ≡ position is_space line → IsVisible line → ⊥
some_alone line i some h = no i (some ∙ no_space_in_word line h)
  where
    no : (n : ℕ) → Some n ≡ None → ⊥
    no n q = cc

parted_at : (xs : List ℕ) (i x : ℕ) → i < length xs → get_or xs i 0 ≡ x → xs ≡ take i xs ++ x ∷ drop (suc i) xs
parted_at [] i x l e = absurd (omega (arith, l))
parted_at (y ∷ ys) zero x l e = ap (λ z. z ∷ ys) e
parted_at (y ∷ ys) (suc i) x l e = let short : i < length ys = omega (arith, l) in ap (λ zs. y ∷ zs) (parted_at ys i x short e)

pub found_parts : (line : List ℕ) (i : ℕ) → Some i ≡ position is_space line → line ≡ take i line ++ 32 ∷ take (length line - (i + 1)) (drop (i + 1) line)
found_parts line i some =
    let at = position-Some is_space line i 0 (sym some) in
    let byte : get_or line i 0 ≡ 32 = eqb-true (get_or line i 0) 32 at.1 in
    parted_at line i 32 at.0 byte ∙ ap (λ zs. take i line ++ 32 ∷ zs) (ap (λ n. drop n line) (sym (add-one i)) ∙ sym (tail_whole line (i + 1)))

pub found_rest : (line word rest : List ℕ) (i : ℕ) → Some i ≡ position is_space line → IsVisible word → line ≡ word ++ 32 ∷ rest
    → (take i line ≡ word) × (take (length line - (i + 1)) (drop (i + 1) line) ≡ rest)
found_rest line word rest i some h e =
    let place = some_found line word rest i some h e in
    (before_space line word rest i e place, tail_whole line (i + 1) ∙ behind_space line word rest i e place)

-- ---- words as text

pub text_exact : {E : Type 0} (bs : List ℕ) (V : E → Type 0) (r : Result (Bor (List ℕ)) E) (o : Option (Bor (List ℕ))) → o ≡ result_ok r
    → MatchResult r (λ s. (s.now ≡ bs) × IsUtf8 bs) (λ e. ¬ (IsUtf8 bs) × V e) → IsUtf8 bs → IsSomeAnd o (λ s. s.now ≡ bs)
text_exact bs V (Ok s) o e h t = subst (λ (p : Option (Bor (List ℕ))). IsSomeAnd p (λ s. s.now ≡ bs)) (sym e) h.0
text_exact bs V (Err x) o e h t = absurd (h.0 t)

-- ---- pairs

pub same_from_some : {X : Type 0} (x y : X) → Some x ≡ Some y → x ≡ y
same_from_some x y e = cc

pub none_not_some : {X : Type 0} (x : X) → None ≡ Some x → ⊥
none_not_some x e = cc

pub some_pair : {X Y : Type 0} (a b : X) (x y : Y) → a ≡ b → x ≡ y → ◌≡◌ {A = Option (X × Y)} (Some (a, x)) (Some (b, y))
some_pair {X} {Y} a b x y p q = let both : X → Y → Option (X × Y) = λ m n. Some (m, n) in ap (λ m. both m x) p ∙ ap (both b) q
