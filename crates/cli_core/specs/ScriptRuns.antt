-- A run of a script: the answers to its lines, and the first line with an error.
use Rattle.std.specs.Prelude.{◌≡◌, ℕ, ◌+◌, ◌<◌, ◌≤◌, ◌⊎◌, Bool, true, false, List, [], ◌∷◌, ◌++◌, length, Option, Some, None, IfSome, Result, Ok, Err}
use Rattle.message_core.specs.declared.errors.WireError.{WireError}
use Rattle.message_core.specs.declared.errors.WireError.TheVariants.{LineTooLong, Memory}
use Rattle.std.specs.Io.KnownBytes.{Appends}
use Rattle.change_core.specs.Numbers.{greatest_number}
use Rattle.wire_json.specs.Input.{AppendsPrefix}
use Rattle.wire_json.specs.Lines.{max_line}
use Rattle.cli_core.specs.declared.scripts.answers.Answer.{Answer}
use Rattle.cli_core.specs.declared.scripts.lines.Command.{Command}
use Rattle.cli_core.specs.declared.scripts.faults.ScriptError.{ScriptError}
use Rattle.cli_core.specs.declared.scripts.faults.ScriptError.TheVariants as fault
use Rattle.cli_core.specs.declared.scripts.faults.SimError.{SimError}
use Rattle.cli_core.specs.declared.scripts.faults.SimError.TheVariants.{AtLine, CannotWrite}
use Rattle.hash_ring.specs.declared.hash.Sha256Hash.{Sha256Hash}
use Rattle.hash_ring.specs.declared.hash.SumHash.{SumHash}
use Rattle.cli_core.specs.Input.{lines_of}
use Rattle.cli_core.specs.Owner.{hash_by}
use Rattle.cli_core.specs.Simulated.{Simulated, IsRefusedFor, Obeys, beginning}
use Rattle.cli_core.specs.ScriptAnswers.{answer_text}
use Rattle.cli_core.specs.ScriptLines.{IsCommand}

-- the line is no longer than it may be, and a command, which the script answers with this text
abbrev pub AnswersLine : {H : Type 0} → (H → List ℕ → ℕ) → Simulated H → List ℕ → List ℕ → Simulated H → Type 0
AnswersLine hash_of old line text new =
    (length line ≤ max_line) × (c : Command) × (answer : Answer) × IsCommand c line × Obeys hash_of old c answer new × (text ≡ answer_text answer)

-- an error of a line that was read, in this state of the script: that it is too long, or else that it is not a command, or an error of the
-- command; or the command is run, and out of memory for the text of its answer
abbrev pub IsLineRefused : {H : Type 0} → (H → List ℕ → ℕ) → Simulated H → List ℕ → ScriptError → Type 0
IsLineRefused hash_of s line fault.ReadFailed = ⊥
IsLineRefused hash_of s line fault.LineTooLong = max_line < length line
IsLineRefused hash_of s line fault.BadCommand = (length line ≤ max_line) × ((c : Command) → IsCommand c line → ⊥)
IsLineRefused {H} hash_of s line fault.OutOfMemory =
    (length line ≤ max_line) × (c : Command) × IsCommand c line × (IsRefusedFor hash_of s c fault.OutOfMemory ⊎ ((answer : Answer) × (then : Simulated H) × Obeys hash_of s c answer then))
IsLineRefused hash_of s line other = (length line ≤ max_line) × (c : Command) × IsCommand c line × IsRefusedFor hash_of s c other

-- an error of the first of the remaining lines; out of memory and a failed read depend on none of its bytes, since they may come before it
-- is read; if no line remains a read can fail, and nothing else
abbrev pub IsRefusedAt : {H : Type 0} → (H → List ℕ → ℕ) → Simulated H → List (List ℕ) → ScriptError → Type 0
IsRefusedAt hash_of s (line ∷ lines) fault.ReadFailed = Unit {0}
IsRefusedAt hash_of s (line ∷ lines) fault.OutOfMemory = Unit {0}
IsRefusedAt hash_of s (line ∷ lines) f = IsLineRefused hash_of s line f
IsRefusedAt hash_of s [] f = f ≡ fault.ReadFailed

-- each line has its answer, one after another, as a line of the output
abbrev pub AnswersAll : {H : Type 0} → (H → List ℕ → ℕ) → Simulated H → List (List ℕ) → List ℕ → Simulated H → Type 0
AnswersAll hash_of old [] output new = (output ≡ []) × (new ≡ old)
AnswersAll {H} hash_of old (line ∷ lines) output new =
    (text rest : List ℕ) × (mid : Simulated H) × AnswersLine hash_of old line text mid × AnswersAll hash_of mid lines rest new × (output ≡ (text ++ 10 ∷ []) ++ rest)

-- an error that the line has no part in
abbrev pub IsOfMachine : ScriptError → Type 0
IsOfMachine fault.ReadFailed = Unit {0}
IsOfMachine fault.OutOfMemory = Unit {0}
IsOfMachine other = ⊥

-- the error of the line with this number is of the machine, or the line is one that is counted
abbrev pub IsCountedLine : ℕ → ScriptError → Type 0
IsCountedLine number f = IsOfMachine f ⊎ (number ≤ greatest_number)

-- this output has the answers to all lines of the input, and they are not too many to be counted
pub record IsAnswered {H : Type 0} (hash_of : H → List ℕ → ℕ) (start : Simulated H) (input output : List ℕ) : Type 0 where
  pub last : Simulated H
  pub answers : AnswersAll hash_of start (lines_of input) output last
  pub counted : length (lines_of input) ≤ greatest_number

-- the first line with an error: its number from 1, and the error after the lines before it, whose answers are this output
pub record IsStoppedAt {H : Type 0} (hash_of : H → List ℕ → ℕ) (start : Simulated H) (input : List ℕ) (number : ℕ) (f : ScriptError) (output : List ℕ) : Type 0 where
  pub before : List (List ℕ)
  pub left : List (List ℕ)
  pub then : Simulated H
  pub lines : lines_of input ≡ before ++ left
  pub answers : AnswersAll hash_of start before output then
  pub place : number ≡ length before + 1
  pub is : IsRefusedAt hash_of then left f
  pub counted : IsCountedLine number f

-- this output has the answers to the first lines of the input, and this text is the answer to the next one, which can be counted
pub record IsCutAfter {H : Type 0} (hash_of : H → List ℕ → ℕ) (start : Simulated H) (input output text : List ℕ) : Type 0 where
  pub before : List (List ℕ)
  pub line : List ℕ
  pub left : List (List ℕ)
  pub then : Simulated H
  pub last : Simulated H
  pub lines : lines_of input ≡ before ++ line ∷ left
  pub answers : AnswersAll hash_of start before output then
  pub answer : AnswersLine hash_of then line text last
  pub counted : length before < greatest_number

-- the output for an input, if that is known, with the answers to all its lines
abbrev pub Completes : {H : Type 0} → (H → List ℕ → ℕ) → Simulated H → Option (List ℕ) → Option (List ℕ) → Option (List ℕ) → Type 0
Completes hash_of start known old new = IfSome known (λ input. (output : List ℕ) × IsAnswered hash_of start input output × Appends old new output)

-- the error if not all lines have answers, and the output then: the answers to the lines before the first with an error; or if the writer
-- failed the answers before the one at which it failed, and a prefix of that one
abbrev pub Stops : {H : Type 0} → (H → List ℕ → ℕ) → Simulated H → SimError → Option (List ℕ) → Option (List ℕ) → Option (List ℕ) → Type 0
Stops hash_of start (AtLine number f) known old new = IfSome known (λ input. (output : List ℕ) × IsStoppedAt hash_of start input number f output × Appends old new output)
Stops hash_of start CannotWrite known old new =
    IfSome known (λ input. (output text : List ℕ) × (written : Option (List ℕ)) × IsCutAfter hash_of start input output text × Appends old written output × AppendsPrefix written new (text ++ 10 ∷ []))

-- a script's error for an error of reading
abbrev pub fault_of_read : WireError → ScriptError
fault_of_read LineTooLong = fault.LineTooLong
fault_of_read Memory = fault.OutOfMemory
fault_of_read e = fault.ReadFailed

-- the effect of one turn on the known bytes: a line and its answer, or nothing at the end, or an error
abbrev pub Turns : {H : Type 0} → (H → List ℕ → ℕ) → Simulated H → List ℕ → Option (List ℕ) → ℕ → Result Bool SimError → Simulated H → Option (List ℕ) → Option (List ℕ) → Type 0
Turns hash_of old xs written number (Ok false) new rest now = (xs ≡ []) × (now ≡ written) × (new ≡ old)
Turns hash_of old xs written number (Ok true) new rest now =
    (line text left : List ℕ) × (rest ≡ Some left) × (lines_of xs ≡ line ∷ lines_of left) × AnswersLine hash_of old line text new × Appends written now (text ++ 10 ∷ [])
Turns hash_of old xs written number (Err (AtLine n f)) new rest now = (n ≡ number) × IsRefusedAt hash_of old (lines_of xs) f × IsCountedLine n f × (now ≡ written)
Turns {H} hash_of old xs written number (Err CannotWrite) new rest now =
    (line text : List ℕ) × (left : List (List ℕ)) × (then : Simulated H) × (lines_of xs ≡ line ∷ left) × AnswersLine hash_of old line text then × AppendsPrefix written now (text ++ 10 ∷ []) × (number ≤ greatest_number)

-- by the sum of the bytes, or by SHA-256's first eight: all lines have answers
abbrev pub CompletesBy : Bool → ℕ → Option (List ℕ) → Option (List ℕ) → Option (List ℕ) → Type 0
CompletesBy true replicas = let hash : SumHash = record {} in Completes (λ (h : SumHash). hash_by true) (beginning hash replicas)
CompletesBy false replicas = let hash : Sha256Hash = record {} in Completes (λ (h : Sha256Hash). hash_by false) (beginning hash replicas)

-- and not all are
abbrev pub StopsBy : Bool → ℕ → SimError → Option (List ℕ) → Option (List ℕ) → Option (List ℕ) → Type 0
StopsBy true replicas = let hash : SumHash = record {} in Stops (λ (h : SumHash). hash_by true) (beginning hash replicas)
StopsBy false replicas = let hash : Sha256Hash = record {} in Stops (λ (h : Sha256Hash). hash_by false) (beginning hash replicas)
