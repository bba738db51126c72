-- The first line of an input, and the lines after it.
use Rattle.std.proofs.Common.{◌≡◌, ℕ, ◌<◌, ◌==◌, Bool, true, false, List, [], ◌∷◌, length, refl, ap, arith}
use Rattle.std.specs.Prelude.{if◌then◌else◌}
use Rattle.wire_json.specs.Input.{line_of, after_line}
use Rattle.cli_core.specs.Input.{with_prefix, lines_of}

by_test : (b : Bool) (x : ℕ) (ys : List ℕ) → with_prefix x (lines_of ys) ≡ (x ∷ line_of ys) ∷ lines_of (after_line ys)
    → (if b then [] ∷ lines_of ys else with_prefix x (lines_of ys)) ≡ (if b then [] else x ∷ line_of ys) ∷ lines_of (if b then ys else after_line ys)
by_test true x ys h = refl
by_test false x ys h = h

pub lines_of-first : (xs : List ℕ) → 0 < length xs → lines_of xs ≡ line_of xs ∷ lines_of (after_line xs)
lines_of-first [] h = absurd (omega arith)
lines_of-first (x ∷ []) h = by_test (x == 10) x [] refl
lines_of-first (x ∷ (y ∷ zs)) h =
    let some : 0 < length (y ∷ zs) = omega arith in
    by_test (x == 10) x (y ∷ zs) (ap (with_prefix x) (lines_of-first (y ∷ zs) some))

-- a line of some bytes stands in an input of some bytes
pub some_from_line : (xs : List ℕ) (n : ℕ) → n < length (line_of xs) → 0 < length xs
some_from_line [] n h = absurd (omega arith)
some_from_line (x ∷ xs) n h = omega arith
