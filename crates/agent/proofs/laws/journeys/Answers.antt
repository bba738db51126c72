use Rattle.agent_api.specs.Onces.{noted_by, sends_once}
use Rattle.agent.proofs.Journeys.{clients_are_told, ends_meet, forwards_ask_one, requests_ask_one}
use Rattle.agent.proofs.laws.journeys.Goals as goal

pub returns-clause-forwards : goal.returns-clause-forwards
returns-clause-forwards g c = forwards_ask_one g.A.HandlerMut.handled

pub returns-clause-requests : goal.returns-clause-requests
returns-clause-requests g c =
    requests_ask_one (sends_once g.N.Dial.dialled) noted_by g.A.HandlerMut.handled g.B.HandlerMut.handled (λ to message answer old new goes. goes.2)

pub returns-clause-told : goal.returns-clause-told
returns-clause-told g c = clients_are_told (sends_once g.N.Dial.dialled) noted_by g.A.HandlerMut.handled (λ to message answer old new goes. goes.2)

pub returns-clause-meet : goal.returns-clause-meet
returns-clause-meet g c = ends_meet (sends_once g.N.Dial.dialled) noted_by g.A.HandlerMut.handled g.B.HandlerMut.handled
