use Rattle.forward_core.proofs.DecidedLaws.{failures_are_one, routes_are_one, steps_are_one}
use Rattle.forward_core.proofs.laws.decided.Goals as goal

pub returns-clause-routes : goal.returns-clause-routes
returns-clause-routes g c = routes_are_one g.H.PointHash.hash_of

pub returns-clause-steps : goal.returns-clause-steps
returns-clause-steps g c = steps_are_one g.H.PointHash.hash_of

pub returns-clause-failures : goal.returns-clause-failures
returns-clause-failures g c = failures_are_one
