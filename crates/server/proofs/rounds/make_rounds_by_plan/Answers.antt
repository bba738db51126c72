use Rattle.server.proofs.Worked.{rounds_as}
use Rattle.server.proofs.rounds.make_rounds_by_plan.Goals as goal

pub returns-in-Some-clause-made : goal.returns-in-Some-clause-made
returns-in-Some-clause-made g c = rounds_as _ _ _ _ _ _ _ _ c.in-Some.is c.make_healing_rounds_over.ensures.made

pub returns-in-None-clause-made : goal.returns-in-None-clause-made
returns-in-None-clause-made g c = rounds_as _ _ _ _ _ _ _ _ c.in-None.is c.make_rounds_over.ensures.made
