use Rattle.agent_core.proofs.Nexting.{next_joins, next_leaves}
use Rattle.agent_core.proofs.laws.next_owners.Goals as goal

pub returns-clause-leaves : goal.returns-clause-leaves
returns-clause-leaves c = next_leaves

pub returns-clause-joins : goal.returns-clause-joins
returns-clause-joins c = next_joins
