-- Lines that are read one after another, and counted from 1.
use Rattle.std.specs.Prelude.{◌≡◌, ◌≢◌, ℕ, ◌<◌, ◌≤◌, ◌⊎◌, List, [], ◌∷◌, length, Option, Some, None, Result, Ok, Err, Vec}
use Rattle.std.specs.Global.{Global}
use Rattle.change_core.specs.Numbers.{greatest_number}
use Rattle.wire_json.specs.Lines.{max_line}
use Rattle.message_core.specs.declared.errors.WireError.{WireError}
use Rattle.message_core.specs.declared.errors.WireError.TheVariants.{LineTooLong, Io, Memory}
use Rattle.cli_core.specs.Input.{lines_of}

-- the error if none of the remaining lines was read: a failed read, or, if there is a line, that it is too long, or out of memory
abbrev pub IsUnread : List (List ℕ) → WireError → Type 0
IsUnread [] e = e ≡ Io
IsUnread (line ∷ lines) Io = Unit {0}
IsUnread (line ∷ lines) LineTooLong = max_line < length line
IsUnread (line ∷ lines) Memory = Unit {0}
IsUnread (line ∷ lines) other = ⊥

-- the result of reading a line: a line of the known bytes, or nothing at their end, or an error
abbrev pub ReadsLine : List ℕ → Result (Option (Vec ℕ Global)) WireError → Option (List ℕ) → Type 0
ReadsLine xs (Ok None) new = xs ≡ []
ReadsLine xs (Ok (Some v)) new = (rest : List ℕ) × (new ≡ Some rest) × (lines_of xs ≡ v.items ∷ lines_of rest)
ReadsLine xs (Err e) new = IsUnread (lines_of xs) e

-- the result once no line can be counted any more: at the end nothing, and else an error of the machine
abbrev pub EndsLines : Result (Option (Vec ℕ Global)) WireError → Result (Option (Vec ℕ Global)) WireError → Type 0
EndsLines (Ok None) now = now ≡ Ok None
EndsLines (Ok (Some line)) now = now ≡ Err Io
EndsLines (Err e) now = ((e ≢ Memory) × (now ≡ Err Io)) ⊎ ((e ≡ Memory) × (now ≡ Err Memory))

-- the result for the line of this number: the one that was read, or, if it can't be counted, the end of the lines
abbrev pub IsCountedAs : ℕ → Result (Option (Vec ℕ Global)) WireError → Result (Option (Vec ℕ Global)) WireError → Type 0
IsCountedAs number read now = ((number ≤ greatest_number) × (now ≡ read)) ⊎ ((greatest_number < number) × EndsLines read now)

-- the error of the line of this number is of the machine, or the line is one that is counted, and too long
abbrev pub IsCountedFault : ℕ → WireError → Type 0
IsCountedFault number e = (e ≡ Io) ⊎ ((e ≡ Memory) ⊎ ((e ≡ LineTooLong) × (number ≤ greatest_number)))
