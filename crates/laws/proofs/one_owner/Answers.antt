use Rattle.laws.proofs.Owning.{handlers_differ, one_handles, others_do_not}
use Rattle.laws.proofs.one_owner.Goals as goal

pub returns-clause-others : goal.returns-clause-others
returns-clause-others g c = others_do_not g.H.PointHash.hash_of g.L.Link.may_answer g.L.Link.went g.A.HandlerMut.handled

pub returns-clause-one : goal.returns-clause-one
returns-clause-one g c = one_handles g.H.PointHash.hash_of g.L.Link.may_answer g.L.Link.went g.A.HandlerMut.handled

pub returns-clause-differ : goal.returns-clause-differ
returns-clause-differ g c = handlers_differ g.H.PointHash.hash_of g.L.Link.may_answer g.L.Link.went g.A.HandlerMut.handled
