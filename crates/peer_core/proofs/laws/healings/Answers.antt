use Rattle.peer_core.proofs.HealRests.{heals_rest}
use Rattle.peer_core.proofs.laws.healings.Goals as goal

pub returns : goal.returns
returns g c = heals_rest g.L.Link.may_answer
