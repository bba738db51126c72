use Rattle.peer_core.specs.Handling.{between}
use Rattle.peer_core.proofs.Requested.{requests_rest}
use Rattle.peer_core.proofs.laws.requests.Goals as goal

pub returns : goal.returns
returns g c = λ old new. requests_rest g.H.PointHash.hash_of g.L.Link.may_answer (between g.A.HandlerMut.handled old new).once g.C.Clock.time
