use Rattle.std.proofs.Common.{Ok}
use Rattle.agent_api.proofs.Performed.{made_found}
use Rattle.agent_api.proofs.api.Api.find.Goals as goal

pub returns-in-Ok-clause-found : goal.returns-in-Ok-clause-found
returns-in-Ok-clause-found g c =
    made_found c.args.key.now (Ok c.in-Ok.view) c.found_by.result _ _ c.view.ensures.node c.in-Ok.ensures.did c.found_by.ensures
