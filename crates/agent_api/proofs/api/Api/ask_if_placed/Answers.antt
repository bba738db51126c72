use Rattle.agent_api.proofs.Performed.{made_crowded}
use Rattle.agent_api.proofs.api.Api.ask_if_placed.Goals as goal

pub returns-then-not-take-clause-asked : goal.returns-then-not-take-clause-asked
returns-then-not-take-clause-asked g c =
    made_crowded c.args.self.now.limit c.args.self.now.agent.now.own c.args.found c.args.key c.args.request c.args.is_repeatable c.crowded.result c.args.self.now.caller.now c.crowded.ensures
