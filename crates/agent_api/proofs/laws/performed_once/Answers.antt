use Rattle.agent_api.specs.Onces.{noted_by, sends_once}
use Rattle.agent_api.proofs.Ending.{answers_are_done_once, errors_are_undone, others_are_sure, requests_end_once}
use Rattle.agent_api.proofs.laws.performed_once.Goals as goal

pub returns-clause-sent : goal.returns-clause-sent
returns-clause-sent g c = requests_end_once (sends_once g.N.Dial.dialled) g.A.HandlerMut.handled noted_by (λ to message answer old new goes. goes.2)

pub returns-clause-answered : goal.returns-clause-answered
returns-clause-answered g c = answers_are_done_once (sends_once g.N.Dial.dialled) g.A.HandlerMut.handled noted_by (λ to message answer old new goes. goes.2)

pub returns-clause-undone : goal.returns-clause-undone
returns-clause-undone g c = errors_are_undone (sends_once g.N.Dial.dialled) g.A.HandlerMut.handled noted_by (λ to message answer old new goes. goes.2)

pub returns-clause-sure : goal.returns-clause-sure
returns-clause-sure g c = others_are_sure (sends_once g.N.Dial.dialled) g.A.HandlerMut.handled noted_by (λ to message answer old new goes. goes.2)
