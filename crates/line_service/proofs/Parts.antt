-- Answers that are written in parts.
use Rattle.std.proofs.Common.{◌≡◌, ℕ, ◌+◌, ◌-◌, ◌≤◌, ◌↔◌, nat_eq, min, IsTrue, List, [], ◌++◌, length, take, drop, Option, None, Some, arith, ap, sym, ◌∙◌, subst}
use Rattle.std.proofs.Math.Nat.{min-le_right}
use Rattle.std.proofs.Math.Seq.{drop-length}
use Rattle.std.proofs.lemmas.Bool.{eq-eqb, eqb-true}
use Rattle.std.proofs.lemmas.List.{append-nil, drop-drop, drop_min, length-drop, take-append-drop, take_rest}
use Rattle.std.specs.Io.KnownBytes.{Appends, Keeps}

-- bytes that are kept are those to which none was appended
pub kept_as_none : (a b : Option (List ℕ)) → Keeps a b → Appends a b []
kept_as_none None b kept = tt
kept_as_none (Some xs) None kept = absurd kept
kept_as_none (Some xs) (Some ys) kept = kept ∙ sym (append-nil xs)

module _ (line here : List ℕ) (written start count : ℕ) (same : here ≡ line) (begins : start ≡ min written (length line)) where
  rest_is : take (length here - start) (drop start here) ≡ drop start line
  rest_is = rw same (take_rest line start)

  -- of a write of all that is left so much was taken, and the rest is left
  pub left_after : drop written line ≡ take count (take (length here - start) (drop start here)) ++ drop (start + count) line
  left_after =
      sym (drop_min written line) ∙ ap (λ (n : ℕ). drop n line) (sym begins) ∙ sym (take-append-drop count (drop start line))
      ∙ ap (λ (left : List ℕ). take count (drop start line) ++ left) (drop-drop count start line)
      ∙ ap (λ (left : List ℕ). take count left ++ drop (start + count) line) (sym rest_is)

  -- nothing is left once the whole line is written, and not before
  pub none_left : (size : ℕ) → size ≡ length line → count ≤ length (take (length here - start) (drop start here))
      → IsTrue (nat_eq (start + count) size) ↔ (drop (start + count) line ≡ [])
  none_left size full few =
      let within : start ≤ length line = subst (λ (n : ℕ). n ≤ length line) (sym begins) (min-le_right written (length line)) in
      let fewer : count ≤ length line - start = subst (λ (n : ℕ). count ≤ n) (ap (λ (left : List ℕ). length left) rest_is ∙ length-drop start line) few in (
        (λ is. ap (λ (n : ℕ). drop n line) (eqb-true (start + count) size is ∙ full) ∙ drop-length line),
        (λ none.
            let gone : length line - (start + count) ≡ 0 = sym (length-drop (start + count) line) ∙ ap (λ (left : List ℕ). length left) none in
            let whole : start + count ≡ length line = omega arith in
            eq-eqb (start + count) size (whole ∙ sym full)),
      )
