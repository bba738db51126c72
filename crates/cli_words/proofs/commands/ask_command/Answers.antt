use Rattle.cli_words.specs.CommandLine as line
use Rattle.cli_words.proofs.Built.{rule_needing}
use Rattle.cli_words.proofs.commands.ask_command.Goals as goal

pub ask_command_with-requires-clause-replicas : goal.ask_command_with-requires-clause-replicas
ask_command_with-requires-clause-replicas c =
    rule_needing c.replicas_option.result c.in_ok-replicas.replicas _ line.replicas c.in_ok-replicas.ensures c.replicas_option.ensures

pub ask_command_with-requires-clause-sum : goal.ask_command_with-requires-clause-sum
ask_command_with-requires-clause-sum c =
    rule_needing c.sum_flag.result c.in_ok-sum.sum _ line.sum c.in_ok-sum.ensures c.sum_flag.ensures
