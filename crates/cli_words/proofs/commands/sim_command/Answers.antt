use Rattle.std.proofs.Common.{codes, refl}
use Rattle.cli_words.specs.CommandLine as line
use Rattle.cli_words.proofs.Built.{leaf_if_built}
use Rattle.cli_words.proofs.commands.sim_command.Goals as goal

pub returns : goal.returns
returns c =
    leaf_if_built _ _ (codes "sim") line.sim_words.rules c.leaf_command.result c.leaf_command.ensures c.in_ok-words.ensures.items
    (c.replicas_option.ensures, refl, (c.sum_flag.ensures, refl, tt))
