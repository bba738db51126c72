-- A line of the log as JSON has no newline.
use Rattle.std.proofs.Common.{◌≢◌, ℕ, ◌/◌, ◌%◌, ◌<◌, ◌≡◌, ◌&&◌, Bool, true, false, cond, ltb, List, [], ◌∷◌, ◌++◌, Option, Some, None, refl, arith, codes}
use Rattle.std.specs.Prelude.{nat_lt}
use Rattle.std.specs.List.{AllByRecursion}
use Rattle.std.specs.Char.{digit_char}
use Rattle.std.proofs.lemmas.Grind.{common_steps}
use Rattle.std.proofs.lemmas.Bool.Decides.{nat_tests}
use Rattle.json.specs.Token.{Token, end_object}
use Rattle.json.specs.Print.{begins, ends, escape_letter, escape_byte, escape, print, print_from, quoted, token_text}
use Rattle.change_core.specs.Address.{address_text}
use Rattle.agent_core.specs.LogLines.{IsOneLine, line_tokens, member, time_member}

joined : (xs ys : List ℕ) → IsOneLine xs → IsOneLine ys → IsOneLine (xs ++ ys)
joined [] ys p q = q
joined (x ∷ xs) ys p q = (p.0, joined xs ys p.1 q)

-- a byte that may stand in one line
byte : (x : ℕ) → 10 < x → x ≢ 10
byte x h = omega arith

char_large : (n : ℕ) → 10 < digit_char n
char_large n = grind (arith, common_steps, nat_tests)

-- the escape's letter is no newline, and a byte below 32 is written in digits
chosen : (letter small : Bool) (x l : ℕ) → ltb 0 l ≡ letter → ltb x 32 ≡ small → l ≢ 10
    → IsOneLine (cond letter (92 ∷ l ∷ []) (cond small (92 ∷ 117 ∷ 48 ∷ 48 ∷ digit_char (x / 16) ∷ digit_char (x % 16) ∷ []) (x ∷ [])))
chosen true small x l p q h = (byte 92 (omega arith), (h, tt))
chosen false true x l p q h =
    (byte 92 (omega arith), (byte 117 (omega arith), (byte 48 (omega arith), (byte 48 (omega arith), (byte _ (char_large (x / 16)), (byte _ (char_large (x % 16)), tt))))))
chosen false false x l p q h = (byte x (grind (arith, common_steps, nat_tests)), tt)

letter_line : (x : ℕ) → escape_letter x ≢ 10
letter_line x = grind (arith, common_steps, nat_tests)

escaped_line : (x : ℕ) → IsOneLine (escape_byte x)
unfolding escape_byte
escaped_line x = chosen (nat_lt 0 (escape_letter x)) (nat_lt x 32) x (escape_letter x) refl refl (letter_line x)

escape_line : (s : List ℕ) → IsOneLine (escape s)
escape_line [] = tt
escape_line (x ∷ s) = joined (escape_byte x) (escape s) (escaped_line x) (escape_line s)

quoted_line : (s : List ℕ) → IsOneLine (quoted s)
quoted_line s = (byte 34 (omega arith), joined (escape s) (34 ∷ []) (escape_line s) (byte 34 (omega arith), tt))

comma_line : (b : Bool) → IsOneLine (cond b (44 ∷ []) [])
comma_line true = (byte 44 (omega arith), tt)
comma_line false = tt

-- none of these tokens is written with a newline
abbrev AreOneLine : List Token → Type 0
AreOneLine = AllByRecursion (λ t. IsOneLine (token_text t))

printed : (after : Bool) (ts : List Token) → AreOneLine ts → IsOneLine (print_from after ts)
unfolding print_from
printed after [] h = tt
printed after (t ∷ ts) h = joined _ _ (comma_line (after && begins t)) (joined (token_text t) _ h.0 (printed (ends t) ts h.1))

with_member : (name text : List ℕ) (ts : List Token) → AreOneLine ts → AreOneLine (member name text ++ ts)
with_member name text ts h = (joined (quoted name) (58 ∷ []) (quoted_line name) (byte 58 (omega arith), tt), (quoted_line text, h))

with_time : (time : Option (List ℕ)) (ts : List Token) → AreOneLine ts → AreOneLine (time_member time ++ ts)
with_time None ts h = h
with_time (Some time) ts h = with_member (codes "time") time ts h

pub one_line : (time : Option (List ℕ)) (own : ℕ) (level target message : List ℕ) → IsOneLine (print (line_tokens time own level target message))
one_line time own level target message =
    let last : List Token = member (codes "message") message ++ end_object ∷ [] in
    let later : List Token = member (codes "target") target ++ last in
    let more : List Token = member (codes "level") level ++ later in
    let own_and_more : List Token = member (codes "address") (address_text own) ++ more in
    let end : AreOneLine (end_object ∷ []) = ((byte 125 (omega arith), tt), tt) in
    let with_last : AreOneLine last = with_member (codes "message") message (end_object ∷ []) end in
    let with_later : AreOneLine later = with_member (codes "target") target last with_last in
    let with_more : AreOneLine more = with_member (codes "level") level later with_later in
    let all : AreOneLine own_and_more = with_member (codes "address") (address_text own) more with_more in
    printed false (line_tokens time own level target message) ((byte 123 (omega arith), tt), with_time time own_and_more all)
