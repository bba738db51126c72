use Rattle.laws.proofs.Scripting.{runs_are_plays, scripts_agree}
use Rattle.laws.proofs.script_agreement.Goals as goal

pub returns-clause-runs : goal.returns-clause-runs
returns-clause-runs g c = λ hash_of. runs_are_plays hash_of

pub returns-clause-agree : goal.returns-clause-agree
returns-clause-agree g c = λ hash_of. scripts_agree hash_of
