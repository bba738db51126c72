-- What the subcommand `agent` makes of its arguments.
use Rattle.std.specs.Prelude.{ℕ, ◌==◌, not, cond, filter, List, Option, Some, None}
use Rattle.log.specs.declared.level.LevelFilter.{LevelFilter}
use Rattle.log.specs.declared.level.LevelFilter.TheVariants as filter_level
use Rattle.cli_words.specs.declared.agent_words.AgentWords.{AgentWords}
use Rattle.cli_words.specs.declared.agent_words.LogLevel.{LogLevel}
use Rattle.cli_words.specs.declared.agent_words.LogLevel.TheVariants as level

-- the log's filter for a level of the arguments
abbrev pub filter_of : LogLevel → LevelFilter
filter_of level.Off = filter_level.Off
filter_of level.Error = filter_level.Error
filter_of level.Warn = filter_level.Warn
filter_of level.Info = filter_level.Info
filter_of level.Debug = filter_level.Debug

-- the field that may name the key of a request, if any request of a key is passed on
abbrev pub key_field_of : AgentWords → Option (List ℕ)
key_field_of words = cond words.any_request (Some words.key_field) None

-- the nodes that are asked to admit the node of an address: those of the arguments but itself
abbrev pub other_hosts : List ℕ → ℕ → List ℕ
other_hosts hosts own = filter (λ host. not (host == own)) hosts
