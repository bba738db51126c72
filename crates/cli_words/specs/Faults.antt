-- The program's error for an error of the arguments, and the exit status.
use Rattle.std.specs.Prelude.{ℕ, List}
use Rattle.std.specs.Borrow.{Bor}
use Rattle.clap.specs.Values.{kind_of}
use Rattle.clap.specs.declared.error.Error.{Error}
use Rattle.clap.specs.declared.error.kind.ErrorKind.{ErrorKind}
use Rattle.clap.specs.declared.error.kind.ErrorKind.TheVariants.{OutOfMemory as no_room}
use Rattle.cli_words.specs.declared.faults.WordsError.{WordsError}
use Rattle.cli_words.specs.declared.faults.WordsError.TheVariants.{Usage, BadAddress, BadAddressAt, OutOfMemory}

-- an error of the arguments is a refusal of them, unless out of memory
abbrev pub fault_of_kind : ErrorKind → Error → WordsError
fault_of_kind no_room e = OutOfMemory
fault_of_kind k e = Usage e

-- a run's error for an error of the arguments, by its own kind
abbrev pub fault_of_words : Error → WordsError
fault_of_words e = fault_of_kind (kind_of e) e

-- the error of arguments but those of `agent`: usage only if they are not whole, and a bad address only if one of them is one, which is not named;
-- out of memory is always possible
abbrev pub IsRefusalOf : Type 0 → Type 0 → WordsError → Type 0
IsRefusalOf whole bad (Usage e) = ¬ whole
IsRefusalOf whole bad BadAddress = bad
IsRefusalOf whole bad (BadAddressAt argument) = ⊥
IsRefusalOf whole bad OutOfMemory = Unit {0}

-- the same error, with the argument that is not an address
abbrev pub fault_at : Bor (List ℕ) → WordsError → WordsError
fault_at argument BadAddress = BadAddressAt argument
fault_at argument (BadAddressAt other) = BadAddressAt other
fault_at argument (Usage e) = Usage e
fault_at argument OutOfMemory = OutOfMemory

-- the arguments are refused as usage, or out of memory
abbrev pub IsUsageFault : WordsError → Type 0
IsUsageFault = IsRefusalOf ⊥ ⊥

-- refused arguments, an address among them, end with 2, and out of memory with 1
abbrev pub status_of : WordsError → ℕ
status_of (Usage e) = 2
status_of BadAddress = 2
status_of (BadAddressAt argument) = 2
status_of OutOfMemory = 1
