use Rattle.peer_core.proofs.CorrectionRests.{corrections_rest}
use Rattle.peer_core.proofs.laws.corrections.Goals as goal

pub returns : goal.returns
returns g c = corrections_rest g.L.Link.may_answer
