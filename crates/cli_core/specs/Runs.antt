-- A run from an input of change lines to a text of their members.
use Rattle.std.specs.Prelude.{◌≡◌, ℕ, ◌≤◌, List, length, Option, IfSome}
use Rattle.std.specs.Io.KnownBytes.{Appends, Keeps}
use Rattle.change_core.specs.declared.changes.Change.{Change}
use Rattle.change_core.specs.Numbers.{greatest_number}
use Rattle.wire_json.specs.Input.{AppendsPrefix}
use Rattle.cli_core.specs.declared.faults.RunError.{RunError}
use Rattle.cli_core.specs.declared.faults.RunError.TheVariants.{AtLine, OutOfMemory, CannotWrite}
use Rattle.cli_core.specs.Input.{lines_of}
use Rattle.cli_core.specs.Changes.{ComeTo}

-- the input is change lines, not too many to be counted, and the output is this text of their members
pub record RunsTo (text : List Change → List ℕ) (input output : List ℕ) : Type 0 where
  pub held : List Change
  pub come_to : ComeTo (lines_of input) held
  pub counted : length (lines_of input) ≤ greatest_number
  pub is : output ≡ text held

-- the output for the input, if all of it is written
abbrev pub Writes : (List Change → List ℕ) → Option (List ℕ) → Option (List ℕ) → Option (List ℕ) → Type 0
Writes text known old new = IfSome known (λ input. (output : List ℕ) × RunsTo text input output × Appends old new output)

-- the output at an error: nothing, or a prefix of the output if the writer failed
abbrev pub Leaves : (List Change → List ℕ) → RunError → Option (List ℕ) → Option (List ℕ) → Option (List ℕ) → Type 0
Leaves text (AtLine number fault) known old new = Keeps old new
Leaves text OutOfMemory known old new = Keeps old new
Leaves text CannotWrite known old new = IfSome known (λ input. (output : List ℕ) × RunsTo text input output × AppendsPrefix old new output)

-- the part of this output that is written at an error: nothing if out of memory, a prefix of it if the writer failed
abbrev pub LeavesPart : List ℕ → RunError → Option (List ℕ) → Option (List ℕ) → Type 0
LeavesPart output (AtLine number fault) old new = ⊥
LeavesPart output OutOfMemory old new = Keeps old new
LeavesPart output CannotWrite old new = AppendsPrefix old new output
