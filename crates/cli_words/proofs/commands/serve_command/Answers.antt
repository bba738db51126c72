use Rattle.std.proofs.Common.{codes, refl, rules}
use Rattle.cli_words.specs.CommandLine as line
use Rattle.cli_words.proofs.Built.{leaf_if_built}
use Rattle.cli_words.proofs.commands.serve_command.Goals as goal

pub returns : goal.returns
returns c =
    leaf_if_built _ _ (codes "serve") line.serve_words.rules c.leaf_command.result c.leaf_command.ensures c.in_ok-words.ensures.items
    (c.workers_option.ensures, refl, (c.period_option.ensures, refl, (c.replicas_option.ensures, refl, (c.sum_flag.ensures, refl, (c.weight_option.ensures, refl, (c.per_message_option.ensures, refl, (c.piggyback_option.ensures, refl, (c.heal_flag.ensures, refl, ((search rules), refl, (c.incarnation_word.ensures, refl, (c.requests_word.ensures, refl, (c.hosts_word.ensures, refl, tt))))))))))))
