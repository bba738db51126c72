-- The input and the output of a subcommand.
use Rattle.std.specs.Prelude.{◌≡◌, ℕ, List, [], ◌∷◌, ◌++◌, Option, IfSome}
use Rattle.std.specs.Io.KnownBytes.{Appends}
use Rattle.cli_core.specs.declared.subcommands.Subcommand.{Subcommand}
use Rattle.cli_core.specs.declared.subcommands.Subcommand.TheVariants.{Fold, Hash, Owner, Sim}
use Rattle.cli_core.specs.declared.subcommands.SubcommandError.{SubcommandError}
use Rattle.cli_core.specs.declared.subcommands.SubcommandError.TheVariants as fault
use Rattle.cli_core.specs.Changes.{IsRefused}
use Rattle.cli_core.specs.Runs.{Leaves, LeavesPart, Writes}
use Rattle.cli_core.specs.Fold.{fold_text}
use Rattle.cli_core.specs.Hash.{hash_text}
use Rattle.cli_core.specs.Owner.{hash_by, owner_text}
use Rattle.cli_core.specs.ScriptRuns.{CompletesBy, StopsBy}

-- the output for the known input, if the subcommand succeeds
abbrev pub Finishes : Subcommand → Option (List ℕ) → Option (List ℕ) → Option (List ℕ) → Type 0
Finishes Fold known old new = Writes fold_text known old new
Finishes (Hash text) known old new = Appends old new (hash_text text.now ++ 10 ∷ [])
Finishes (Owner words) known old new = Writes (owner_text (hash_by words.sum) words.replicas words.count words.key.now) known old new
Finishes (Sim words) known old new = CompletesBy words.sum words.replicas known old new

-- the error if it fails, and the output then; a script has separate errors
abbrev pub Fails : Subcommand → SubcommandError → Option (List ℕ) → Option (List ℕ) → Option (List ℕ) → Type 0
Fails Fold (fault.Run e) known old new = IfSome known (λ input. IsRefused input e) × Leaves fold_text e known old new
Fails (Hash text) (fault.Run e) known old new = LeavesPart (hash_text text.now ++ 10 ∷ []) e old new
Fails (Owner words) (fault.Run e) known old new =
    IfSome known (λ input. IsRefused input e)
    × Leaves (owner_text (hash_by words.sum) words.replicas words.count words.key.now) e known old new
Fails (Sim words) (fault.Run e) known old new = ⊥
Fails (Sim words) (fault.Sim e) known old new = StopsBy words.sum words.replicas e known old new
Fails other (fault.Sim e) known old new = ⊥

-- the input that is read, if that is specified: `hash` reads nothing
abbrev pub Reads : Subcommand → Option (List ℕ) → Option (List ℕ) → Type 0
Reads (Hash text) known left = left ≡ known
Reads other known left = Unit {0}
