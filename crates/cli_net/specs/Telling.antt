-- Changes that are passed to a running node, a line each.
use Rattle.std.specs.Prelude.{◌≡◌, ℕ, ◌+◌, ◌≤◌, Bool, true, false, List, [], ◌∷◌, ◌++◌, length, Option, Some, None, IfSome, Result, Ok, Err}
use Rattle.std.specs.Io.KnownBytes.{Keeps}
use Rattle.change_core.specs.Numbers.{most_members}
use Rattle.change_core.specs.Numeral.{number_text}
use Rattle.change_core.specs.declared.addresses.Address.{Address}
use Rattle.change_core.specs.declared.changes.Sourced.{Sourced}
use Rattle.wire_json.specs.Forms.{ChangeFault}
use Rattle.wire_json.specs.Lines.{Faults}
use Rattle.message_core.specs.declared.messages.News.{News}
use Rattle.cli_core.specs.Changes.{AreChangeLines, IsChangeLine}
use Rattle.cli_core.specs.Input.{lines_of}
use Rattle.cli_core.specs.declared.faults.LineError.{LineError}
use Rattle.cli_core.specs.declared.faults.LineError.TheVariants as line
use Rattle.peer_core.specs.Links.{MayAnswer}
use Rattle.cli_net.specs.Membership.{IsUnwritten, WritesSeen, told_members}
use Rattle.cli_net.specs.declared.faults.TellError.{TellError}
use Rattle.cli_net.specs.declared.faults.TellError.TheVariants as tell

-- the lines are these changes, no more than a message has
abbrev pub AreNews : List (List ℕ) → List Sourced → Type 0
AreNews lines changes = AreChangeLines lines changes × (length changes ≤ most_members)

-- the error of the first of the remaining lines; if none remains a read can fail, and nothing else
abbrev pub IsWrong : List (List ℕ) → LineError → Type 0
IsWrong (l ∷ ls) (line.Wire e) = Faults ChangeFault l e
IsWrong (l ∷ ls) line.OutOfMemory = Unit {0}
IsWrong ls line.ReadFailed = Unit {0}
IsWrong ls other = ⊥

-- the first line with an error: its number from 1, and the error after the lines before it, which are changes
pub record IsFirstWrong (input : List ℕ) (number : ℕ) (what : LineError) : Type 0 where
  pub before : List (List ℕ)
  pub left : List (List ℕ)
  pub changes : List Sourced
  pub lines : lines_of input ≡ before ++ left
  pub read : AreNews before changes
  pub place : number ≡ length before + 1
  pub is : IsWrong left what

-- as many lines as a message has changes are changes, and the next one is a change too
pub record IsOneTooMany (input : List ℕ) : Type 0 where
  pub before : List (List ℕ)
  pub next : List ℕ
  pub later : List (List ℕ)
  pub changes : List Sourced
  pub change : Sourced
  pub lines : lines_of input ≡ before ++ next ∷ later
  pub read : AreChangeLines before changes
  pub full : length changes ≡ most_members
  pub is : IsChangeLine next change

-- the known lines are these changes
abbrev pub Gives : Option (List ℕ) → List Sourced → Type 0
Gives known changes = IfSome known (λ input. AreNews (lines_of input) changes)

-- the error of known lines that are not passed on: the first with an error, or too many
abbrev pub IsNoNews : Option (List ℕ) → TellError → Type 0
IsNoNews known (tell.AtLine number what) = IfSome known (λ input. IsFirstWrong input number what)
IsNoNews known tell.TooManyChanges = IfSome known IsOneTooMany
IsNoNews known (tell.Asked e) = ⊥

-- the result of reading the remaining lines: a change, which is the first of them, or nothing at the end, or an error
abbrev pub HearsChange : List ℕ → Result (Option Sourced) LineError → Option (List ℕ) → Type 0
HearsChange xs (Ok None) left = xs ≡ []
HearsChange xs (Ok (Some c)) left = (next rest : List ℕ) × (left ≡ Some rest) × (lines_of xs ≡ next ∷ lines_of rest) × IsChangeLine next c
HearsChange xs (Err what) left = IsWrong (lines_of xs) what

-- the part of the input that one turn read, and its effect on the changes: a line that is a change, or nothing at the end, or an error
abbrev pub TakesTurn : List ℕ → List Sourced → Result Bool TellError → Option (List ℕ) → List Sourced → Type 0
TakesTurn xs old (Ok false) left new = (xs ≡ []) × (new ≡ old)
TakesTurn xs old (Ok true) left new =
    (next rest : List ℕ) × (c : Sourced) × (left ≡ Some rest) × (lines_of xs ≡ next ∷ lines_of rest) × IsChangeLine next c × (new ≡ old ++ c ∷ [])
TakesTurn xs old (Err (tell.AtLine number what)) left new = (number ≡ length old + 1) × IsWrong (lines_of xs) what
TakesTurn xs old (Err tell.TooManyChanges) left new =
    (next : List ℕ) × (later : List (List ℕ)) × (c : Sourced) × (lines_of xs ≡ next ∷ later) × IsChangeLine next c × (length old ≡ most_members)
TakesTurn xs old (Err (tell.Asked e)) left new = ⊥

-- how many members there are then
abbrev pub count_line : News → List ℕ
count_line news = number_text (length (told_members news)) ++ 10 ∷ []

-- the node processed the changes of the known input, and how many members it then reports is written
abbrev pub Tells : MayAnswer → Address → Option (List ℕ) → Option (List ℕ) → Option (List ℕ) → Type 0
Tells May to known old new = (changes : List Sourced) × Gives known changes × WritesSeen May to changes count_line old new

-- the error if not, and the output then: at an error of the lines none, and the node was not asked
abbrev pub IsUntold : MayAnswer → Address → Option (List ℕ) → TellError → Option (List ℕ) → Option (List ℕ) → Type 0
IsUntold May to known (tell.Asked e) old new = (changes : List Sourced) × Gives known changes × IsUnwritten May to changes count_line e old new
IsUntold May to known other old new = IsNoNews known other × Keeps old new
