use Rattle.node_core.proofs.Configured.{limits_within}
use Rattle.node_core.proofs.edits.wait_for.Goals as goal

pub returns-in-Suspect-clause-within : goal.returns-in-Suspect-clause-within
returns-in-Suspect-clause-within c = (limits_within c.args.config.now c.requires.configured).suspect

pub returns-in-Faulty-clause-within : goal.returns-in-Faulty-clause-within
returns-in-Faulty-clause-within c = (limits_within c.args.config.now c.requires.configured).faulty
