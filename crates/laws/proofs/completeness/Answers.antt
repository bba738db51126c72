use Rattle.laws.proofs.Completing.{members_are_probed, passes_probe}
use Rattle.laws.proofs.completeness.Goals as goal

pub returns-clause-histories : goal.returns-clause-histories
returns-clause-histories g c = members_are_probed g.H.PointHash.hash_of g.L.Link.may_answer

pub returns-clause-passes : goal.returns-clause-passes
returns-clause-passes g c = passes_probe g.H.PointHash.hash_of g.L.Link.may_answer
