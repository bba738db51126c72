use Rattle.cli_core.proofs.OneCommand.{command_once}
use Rattle.cli_core.proofs.laws.one_command.Goals as goal

pub returns : goal.returns
returns c = command_once
