use Rattle.std.proofs.Common.{codes, refl}
use Rattle.cli_words.specs.CommandLine as line
use Rattle.cli_words.proofs.Built.{leaf_if_built}
use Rattle.cli_words.proofs.commands.agent_command_with.Goals as goal

pub returns : goal.returns
returns c =
    leaf_if_built _ _ (codes "agent") line.agent_words.rules c.leaf_command.result c.leaf_command.ensures c.in_ok-words.ensures.items
    (c.bind_option.ensures, refl, (c.http_option.ensures, refl, (c.http_any_flag.ensures, refl, (c.app_option.ensures, refl, (c.no_wait_app_flag.ensures, refl, (c.leave_after_option.ensures, refl, (c.requires.tell, refl, (c.any_request_flag.ensures, refl, (c.requires.key_field, refl, (c.cluster_option.ensures, refl, (c.hosts_file_option.ensures, refl, (c.hands_option.ensures, refl, (c.http_connections_option.ensures, refl, (c.agent_period_option.ensures, refl, (c.agent_per_message_option.ensures, refl, (c.replicas_option.ensures, refl, (c.weight_option.ensures, refl, (c.incarnation_option.ensures, refl, (c.log_option.ensures, refl, (c.log_json_flag.ensures, refl, (c.agent_address.ensures, refl, (c.hosts_word.ensures, refl, tt))))))))))))))))))))))
