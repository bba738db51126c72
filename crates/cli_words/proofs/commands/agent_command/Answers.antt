use Rattle.std.proofs.Common.{codes}
use Rattle.cli_words.specs.CommandLine as line
use Rattle.cli_words.proofs.Built.{rule_needing}
use Rattle.cli_words.proofs.commands.agent_command.Goals as goal

pub agent_command_with-requires-clause-tell : goal.agent_command_with-requires-clause-tell
agent_command_with-requires-clause-tell c =
    rule_needing c.tell_flag.result c.in_ok-tell.tell _ (line.flag (codes "tell-app")) c.in_ok-tell.ensures c.tell_flag.ensures

pub agent_command_with-requires-clause-key_field : goal.agent_command_with-requires-clause-key_field
agent_command_with-requires-clause-key_field c =
    rule_needing c.key_field_option.result c.in_ok-key_field.key_field _ line.key_field_option c.in_ok-key_field.ensures c.key_field_option.ensures
