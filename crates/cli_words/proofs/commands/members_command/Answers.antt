use Rattle.std.proofs.Common.{codes, refl, rules}
use Rattle.cli_words.specs.CommandLine as line
use Rattle.cli_words.proofs.Built.{leaf_if_built}
use Rattle.cli_words.proofs.commands.members_command.Goals as goal

pub returns : goal.returns
returns c =
    leaf_if_built _ _ (codes "members") line.members_words.rules c.leaf_command.result c.leaf_command.ensures c.in_ok-words.ensures.items
    (c.lines_flag-lines.ensures, refl, (c.table_flag-table.ensures, refl, (c.cluster_option.ensures, refl, (c.host_word.ensures, refl, tt))))
