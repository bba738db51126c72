use Rattle.peer_core.proofs.HandlingCounts.{requests_handled, servings_handled}
use Rattle.peer_core.proofs.laws.handlings.Goals as goal

pub returns-clause-served : goal.returns-clause-served
returns-clause-served g c = servings_handled g.H.PointHash.hash_of g.L.Link.may_answer g.A.HandlerMut.handled

pub returns-clause-requested : goal.returns-clause-requested
returns-clause-requested g c = requests_handled g.H.PointHash.hash_of g.L.Link.went g.A.HandlerMut.handled
