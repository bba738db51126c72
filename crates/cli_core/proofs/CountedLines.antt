-- A line that is read, and what it is to the lines that were left.
use Rattle.std.proofs.Common.{◌≡◌, ℕ, ◌<◌, ◌≤◌, false, true, List, [], ◌∷◌, length, Option, Some, None, Ok, Err, Vec, Global, refl, sym, ap, ◌∙◌, inl, inr}
use Rattle.std.specs.Prelude.{◌≢◌, All, IfSome, IfOk, IfErr, IsSome, Result, ◌⊎◌, vec_len}
use Rattle.change_core.specs.Numbers.{greatest_number}
use Rattle.wire_json.specs.Lines.{max_line}
use Rattle.wire_json.specs.Input.{line_of, after_line, TakesLine}
use Rattle.message_core.specs.declared.errors.WireError.{WireError}
use Rattle.message_core.specs.declared.errors.WireError.TheVariants.{LineTooLong, Io, Memory}
use Rattle.cli_core.specs.Input.{lines_of}
use Rattle.cli_core.specs.Counted.{EndsLines, IsCountedAs, IsCountedFault, IsUnread, ReadsLine}
use Rattle.cli_core.proofs.Lines.{lines_of-first, some_from_line}

read_failed : (lines : List (List ℕ)) → IsUnread lines Io
read_failed [] = refl
read_failed (line ∷ lines) = tt

out_of_memory : (xs : List ℕ) → 0 < length (line_of xs) → IsUnread (lines_of xs) Memory
out_of_memory xs h = let first = lines_of-first xs (some_from_line xs 0 h) in rw first tt

too_long : (xs : List ℕ) → max_line < length (line_of xs) → IsUnread (lines_of xs) LineTooLong
too_long xs h = let first = lines_of-first xs (some_from_line xs max_line h) in rw first h

abbrev pub IsReadError : WireError → Type 0
IsReadError e = (e ≡ LineTooLong) ⊎ ((e ≡ Io) ⊎ (e ≡ Memory))

taken_known : (xs : List ℕ) (new : Option (List ℕ)) (r : Result (Option (Vec ℕ Global)) WireError) → TakesLine (Some xs) r new → IfErr r (λ e. IsReadError e) → ReadsLine xs r new
taken_known xs new (Ok None) t i = t.0
taken_known xs new (Ok (Some v)) t i = (after_line xs, t.2, lines_of-first xs t.0 ∙ ap (λ l. l ∷ lines_of (after_line xs)) (sym t.1))
taken_known xs new (Err e) t (inl q) = let long = rw q at t in rw q (too_long xs long.0)
taken_known xs new (Err e) t (inr (inl q)) = rw q (read_failed (lines_of xs))
taken_known xs new (Err e) t (inr (inr q)) = let part = rw q at t in rw q (out_of_memory xs part.0)

-- what was taken as a line is one
pub line_taken : (known new : Option (List ℕ)) (r : Result (Option (Vec ℕ Global)) WireError) → TakesLine known r new → IfErr r (λ e. IsReadError e) → IfSome known (λ xs. ReadsLine xs r new)
line_taken None new r t i = tt
line_taken (Some xs) new r t i = taken_known xs new r t i

last_known : (xs : List ℕ) (new : Option (List ℕ)) (r now : Result (Option (Vec ℕ Global)) WireError) → TakesLine (Some xs) r new → EndsLines r now → ReadsLine xs now new
last_known xs new (Ok None) now t e = rw e t.0
last_known xs new (Ok (Some v)) now t e = rw e (read_failed (lines_of xs))
last_known xs new (Err e) now t (inl p) = rw p.1 (read_failed (lines_of xs))
last_known xs new (Err e) now t (inr p) = let part = rw p.0 at t in rw p.1 (out_of_memory xs part.0)

last_taken : (known new : Option (List ℕ)) (r now : Result (Option (Vec ℕ Global)) WireError) → TakesLine known r new → EndsLines r now → IfSome known (λ xs. ReadsLine xs now new)
last_taken None new r now t e = tt
last_taken (Some xs) new r now t e = last_known xs new r now t e

-- and so is what is made of it by its number
pub made_of_line : (number : ℕ) (known new : Option (List ℕ)) (r now : Result (Option (Vec ℕ Global)) WireError)
    → TakesLine known r new → IfErr r (λ e. IsReadError e) → IsCountedAs number r now → IfSome known (λ xs. ReadsLine xs now new)
made_of_line number known new r now t i (inl (few, same)) = rw same (line_taken known new r t i)
made_of_line number known new r now t i (inr (many, ends)) = last_taken known new r now t ends

-- a line of the input is counted
counted_fault : (number : ℕ) (r : Result (Option (Vec ℕ Global)) WireError) → number ≤ greatest_number → IfErr r (λ e. IsReadError e) → IfErr r (λ e. IsCountedFault number e)
counted_fault number (Ok o) few i = tt
counted_fault number (Err e) few (inl q) = inr (inr (q, few))
counted_fault number (Err e) few (inr (inl q)) = inl q
counted_fault number (Err e) few (inr (inr q)) = inr (inl q)

counted_line : (number : ℕ) (r : Result (Option (Vec ℕ Global)) WireError) → number ≤ greatest_number → IfOk r (λ line. IsSome line → number ≤ greatest_number)
counted_line number (Ok o) few = λ h. few
counted_line number (Err e) few = tt

not_there : false ≡ true → ⊥
not_there e = cc

-- a line that was read is counted and no longer than a line may be, and a fault is one of a counted line
abbrev pub HoldsCount : ℕ → Result (Option (Vec ℕ Global)) WireError → Type 0
HoldsCount number now =
    IfOk now (λ line. IsSome line → number ≤ greatest_number) × IfOk now (λ line. IfSome line (λ v. vec_len v ≤ max_line)) × IfErr now (λ e. IsCountedFault number e)

-- where no line can be counted there is none, and no fault of one
last_counted : (number : ℕ) (r now : Result (Option (Vec ℕ Global)) WireError) → EndsLines r now → HoldsCount number now
last_counted number (Ok None) now e = rw e ((λ h. absurd (not_there h)), tt, tt)
last_counted number (Ok (Some v)) now e = rw e (tt, tt, inl refl)
last_counted number (Err x) now (inl p) = rw p.1 (tt, tt, inl refl)
last_counted number (Err x) now (inr p) = rw p.1 (tt, tt, inr (inl refl))

short_line : (r : Result (Option (Vec ℕ Global)) WireError) → IfOk r (λ line. IfSome line (λ v. (vec_len v ≤ max_line) × All (λ x. x ≢ 10) v.items))
    → IfOk r (λ line. IfSome line (λ v. vec_len v ≤ max_line))
short_line (Ok None) line = tt
short_line (Ok (Some v)) line = line.0
short_line (Err e) line = tt

pub holds_count : (number : ℕ) (r now : Result (Option (Vec ℕ Global)) WireError)
    → IfOk r (λ line. IfSome line (λ v. (vec_len v ≤ max_line) × All (λ x. x ≢ 10) v.items)) → IfErr r (λ e. IsReadError e) → IsCountedAs number r now → HoldsCount number now
holds_count number r now line i (inl (few, same)) = rw same (counted_line number r few, short_line r line, counted_fault number r few i)
holds_count number r now line i (inr (many, ends)) = last_counted number r now ends
