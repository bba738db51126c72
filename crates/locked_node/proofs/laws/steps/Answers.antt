use Rattle.locked_node.proofs.Histories.{made_in_turn}
use Rattle.locked_node.proofs.laws.steps.Goals as goal

pub returns : goal.returns
returns g c = made_in_turn
