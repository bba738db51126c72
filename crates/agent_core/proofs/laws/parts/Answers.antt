use Rattle.agent_core.proofs.Parting.{joined-once, unpacked-once}
use Rattle.agent_core.proofs.laws.parts.Goals as goal

pub returns-clause-joined : goal.returns-clause-joined
returns-clause-joined c = joined-once

pub returns-clause-packed : goal.returns-clause-packed
returns-clause-packed c = unpacked-once
