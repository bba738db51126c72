-- The exit status.
use Rattle.std.specs.Prelude.{ℕ}
use Rattle.cli_words.specs.Faults as of_words
use Rattle.cli_run.specs.declared.program_errors.Fault.{Fault}
use Rattle.cli_run.specs.declared.program_errors.Fault.TheVariants.{Words, Subcommand, Cluster, Agent}

-- an error of the arguments ends with 2, and all else with 1
abbrev pub status_of : Fault → ℕ
status_of (Words f) = of_words.status_of f
status_of (Subcommand f) = 1
status_of (Cluster f) = 1
status_of (Agent e) = 1
