use Rattle.std.proofs.Common.{codes, refl, rules}
use Rattle.cli_words.specs.CommandLine as line
use Rattle.cli_words.proofs.Built.{leaf_if_built}
use Rattle.cli_words.proofs.commands.ask_command_with.Goals as goal

pub returns : goal.returns
returns c =
    leaf_if_built _ _ (codes "ask") line.ask_words.rules c.leaf_command.result c.leaf_command.ensures c.in_ok-words.ensures.items
    (c.any_flag.ensures, refl, (c.requires.replicas, refl, (c.requires.sum, refl, (c.cluster_option-cluster.ensures, refl, ((search rules), refl, ((search rules), refl, ((search rules), refl, tt)))))))
