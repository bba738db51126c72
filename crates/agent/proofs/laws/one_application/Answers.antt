use Rattle.agent.proofs.Owning.{askers_differ, askers_own, one_asks}
use Rattle.agent.proofs.laws.one_application.Goals as goal

pub returns-clause-own : goal.returns-clause-own
returns-clause-own g c = askers_own g.A.HandlerMut.handled

pub returns-clause-one : goal.returns-clause-one
returns-clause-one g c = one_asks g.A.HandlerMut.handled

pub returns-clause-differ : goal.returns-clause-differ
returns-clause-differ g c = askers_differ g.A.HandlerMut.handled
