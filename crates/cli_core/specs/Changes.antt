-- Change lines, their members, and the first line with an error.
use Rattle.std.specs.Prelude.{◌≡◌, ℕ, ◌+◌, ◌≤◌, ◌⊎◌, Bool, true, false, List, [], ◌∷◌, ◌++◌, map, length, Option, Some, None, Result, Ok, Err}
use Rattle.std.specs.List.{AllZip, Contains}
use Rattle.change_core.specs.declared.changes.Change.{Change}
use Rattle.change_core.specs.declared.changes.Sourced.{Sourced}
pub use Rattle.change_core.specs.Change.{change_of}
use Rattle.change_core.specs.Members.{greatest, members}
use Rattle.change_core.specs.Numbers.{greatest_number, most_members}
use Rattle.wire_json.specs.Forms.{ChangeForm, ChangeFault}
use Rattle.wire_json.specs.Lines.{IsLine, Faults}
use Rattle.cli_core.specs.declared.faults.LineError.{LineError}
use Rattle.cli_core.specs.declared.faults.LineError.TheVariants.{Wire, TooManyMembers, ReadFailed, OutOfMemory as LineOutOfMemory}
use Rattle.cli_core.specs.declared.faults.RunError.{RunError}
use Rattle.cli_core.specs.declared.faults.RunError.TheVariants.{AtLine, OutOfMemory, CannotWrite}
use Rattle.cli_core.specs.Input.{lines_of}

-- the line is this change
abbrev pub IsChangeLine : List ℕ → Sourced → Type 0
IsChangeLine line c = IsLine (λ v. ChangeForm v c) line

-- each line is the change at its place
abbrev pub AreChangeLines : List (List ℕ) → List Sourced → Type 0
AreChangeLines = AllZip IsChangeLine

-- every line is a change, these are the members of the changes, and there is room for them
pub record ComeTo (lines : List (List ℕ)) (held : List Change) : Type 0 where
  pub heard : List Sourced
  pub read : AreChangeLines lines heard
  pub are_members : held ≡ members (map change_of heard)
  pub fits : length held ≤ most_members

-- the change is about an address that is not held, and as many are held as can be
pub record IsTooMany (held : List Change) (c : Change) : Type 0 where
  pub unknown : greatest held c.address ≡ None
  pub full : length held ≡ most_members

-- an error that the input has no part in
abbrev pub IsOutside : RunError → Type 0
IsOutside (AtLine number (Wire e)) = ⊥
IsOutside (AtLine number TooManyMembers) = ⊥
IsOutside (AtLine number ReadFailed) = Unit {0}
IsOutside (AtLine number LineOutOfMemory) = Unit {0}
IsOutside OutOfMemory = Unit {0}
IsOutside CannotWrite = Unit {0}

-- an error of a line that comes after these members; out of memory and a failed read depend on none of its bytes
abbrev pub IsLineFault : List Change → List ℕ → LineError → Type 0
IsLineFault held line (Wire e) = Faults ChangeFault line e
IsLineFault held line TooManyMembers = (c : Sourced) × IsChangeLine line c × IsTooMany held c.change
IsLineFault held line ReadFailed = Unit {0}
IsLineFault held line LineOutOfMemory = Unit {0}

-- an error of the first of the remaining lines; if none remains a read can fail, and nothing else
abbrev pub IsFaultAt : List Change → List (List ℕ) → LineError → Type 0
IsFaultAt held (line ∷ lines) fault = IsLineFault held line fault
IsFaultAt held [] (Wire e) = ⊥
IsFaultAt held [] TooManyMembers = ⊥
IsFaultAt held [] ReadFailed = Unit {0}
IsFaultAt held [] LineOutOfMemory = ⊥

-- the error of the line with this number is of the machine, or the line is one that is counted
abbrev pub IsCounted : ℕ → LineError → Type 0
IsCounted number fault = IsOutside (AtLine number fault) ⊎ (number ≤ greatest_number)

-- the first line with an error: its number from 1, and the error after the lines before it, which have members
pub record IsFirstFault (input : List ℕ) (number : ℕ) (fault : LineError) : Type 0 where
  pub before : List (List ℕ)
  pub left : List (List ℕ)
  pub held : List Change
  pub lines : lines_of input ≡ before ++ left
  pub come_to : ComeTo before held
  pub place : number ≡ length before + 1
  pub is : IsFaultAt held left fault
  pub counted : IsCounted number fault

-- all lines of the input are read: these are their members, and they are not too many to be counted
abbrev pub IsHeard : List ℕ → List Change → Type 0
IsHeard input held = ComeTo (lines_of input) held × (length (lines_of input) ≤ greatest_number)

-- the error for an input that is not written whole: its first line with an error, or, once all lines are read, out of memory or a failed
-- write
abbrev pub IsRefused : List ℕ → RunError → Type 0
IsRefused input (AtLine number fault) = IsFirstFault input number fault
IsRefused input OutOfMemory = (held : List Change) × IsHeard input held
IsRefused input CannotWrite = (held : List Change) × IsHeard input held

-- each line of one list is in the other, in any order and any number
pub record HaveSameLines (lines others : List (List ℕ)) : Type 0 where
  pub to : (line : List ℕ) → Contains lines line → Contains others line
  pub from : (line : List ℕ) → Contains others line → Contains lines line

-- the part of the input that one turn read, and its effect on the members: a line and its change, or nothing at the end, or an error
abbrev pub Hears : List ℕ → List Change → Result Bool LineError → Option (List ℕ) → List Change → Type 0
Hears xs held (Ok false) new now = (xs ≡ []) × (now ≡ held)
Hears xs held (Ok true) new now =
    (line rest : List ℕ) × (c : Sourced) × (new ≡ Some rest) × (lines_of xs ≡ line ∷ lines_of rest) × IsChangeLine line c × (now ≡ members (held ++ c.change ∷ []))
Hears xs held (Err fault) new now = IsFaultAt held (lines_of xs) fault
