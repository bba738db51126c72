-- What the program's words read and write: a subcommand's lines, what a command that speaks to nodes tells, or what an agent says.
use Rattle.std.specs.Prelude.{◌≡◌, ℕ, List, Option}
use Rattle.std.specs.Io.KnownBytes.{Appends}
use Rattle.wire_json.specs.Input.{AppendsPrefix}
use Rattle.peer_core.specs.Links.{MayAnswer}
use Rattle.agent.specs.Texts.{agent_text}
use Rattle.server.specs.Working.{any_times}
use Rattle.cli_core.specs.Subcommands.{Finishes, Fails, Reads}
use Rattle.cli_net.specs.Commands.{CommandFinishes, CommandFails, CommandReads}
use Rattle.cli_run.specs.declared.program_errors.Fault.{Fault}
use Rattle.cli_run.specs.declared.program_errors.Fault.TheVariants as fault
use Rattle.cli_words.specs.declared.words.Words.{Words}
use Rattle.cli_words.specs.declared.words.Words.TheVariants.{Lines, Cluster, Agent}

-- the output for the known input, if the command of the arguments succeeds, by the answers of nodes of a cluster
abbrev pub WordsFinish : (Option (List ℕ) → MayAnswer) → Words → Option (List ℕ) → Option (List ℕ) → Option (List ℕ) → Type 0
WordsFinish May (Lines subcommand) known old new = Finishes subcommand known old new
WordsFinish May (Cluster words) known old new = CommandFinishes (May words.cluster) any_times words.command known old new
WordsFinish May (Agent words) known old new = Appends old new (agent_text words.address)

-- why it does not, and what is written then: the fault is its own; of what an agent says a prefix
abbrev pub WordsFail : (Option (List ℕ) → MayAnswer) → Words → Fault → Option (List ℕ) → Option (List ℕ) → Option (List ℕ) → Type 0
WordsFail May (Lines subcommand) (fault.Subcommand e) known old new = Fails subcommand e known old new
WordsFail May (Cluster words) (fault.Cluster e) known old new = CommandFails (May words.cluster) words.command e known old new
WordsFail May (Agent words) (fault.Agent e) known old new = AppendsPrefix old new (agent_text words.address)
WordsFail May other e known old new = ⊥

-- the input that is read, if that is specified
abbrev pub WordsRead : Words → Option (List ℕ) → Option (List ℕ) → Type 0
WordsRead (Lines subcommand) known left = Reads subcommand known left
WordsRead (Cluster words) known left = CommandReads words.command known left
WordsRead (Agent words) known left = left ≡ known
