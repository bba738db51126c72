use Rattle.peer_core.proofs.Resent.{resendings_count}
use Rattle.peer_core.proofs.laws.resendings.Goals as goal

pub returns : goal.returns
returns g c = resendings_count g.H.PointHash.hash_of g.L.Link.went g.A.HandlerMut.handled
