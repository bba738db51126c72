use Rattle.agent_core.proofs.Watching.{leaves_late, stays_out}
use Rattle.agent_core.proofs.laws.absences.Goals as goal

pub returns-clause-late : goal.returns-clause-late
returns-clause-late c = leaves_late

pub returns-clause-held : goal.returns-clause-held
returns-clause-held c = stays_out
