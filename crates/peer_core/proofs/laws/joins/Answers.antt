use Rattle.peer_core.proofs.Joined.{joins_rest}
use Rattle.peer_core.proofs.laws.joins.Goals as goal

pub returns : goal.returns
returns g c = joins_rest g.L.Link.may_answer
