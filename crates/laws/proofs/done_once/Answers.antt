use Rattle.laws.proofs.Ending.{replies_are_done, texts_are_done}
use Rattle.laws.proofs.done_once.Goals as goal

pub returns-clause-replies : goal.returns-clause-replies
returns-clause-replies g c = replies_are_done g.H.PointHash.hash_of g.L.Link.may_answer g.B.HandlerMut.handled

pub returns-clause-texts : goal.returns-clause-texts
returns-clause-texts g c = texts_are_done g.H.PointHash.hash_of g.L.Link.may_answer g.L.Link.went g.A.HandlerMut.handled g.B.HandlerMut.handled
