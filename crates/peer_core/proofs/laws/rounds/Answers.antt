use Rattle.peer_core.proofs.Rests.{rounds_rest}
use Rattle.peer_core.proofs.laws.rounds.Goals as goal

pub returns : goal.returns
returns g c = rounds_rest g.L.Link.may_answer
