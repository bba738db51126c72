use Rattle.ringpop_c.proofs.Exports.{export_runs_are_runs, export_runs_keep_it}
use Rattle.ringpop_c.proofs.laws.export_run.Goals as goal

pub returns-clause-runs : goal.returns-clause-runs
returns-clause-runs c = export_runs_are_runs

pub returns-clause-keeps : goal.returns-clause-keeps
returns-clause-keeps c = export_runs_keep_it
