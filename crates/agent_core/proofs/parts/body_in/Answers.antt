use Rattle.agent_core.proofs.Parting.{none_alone}
use Rattle.agent_core.proofs.parts.body_in.Goals as goal

pub returns-in_default-clause-none : goal.returns-in_default-clause-none
returns-in_default-clause-none c = λ body same. none_alone c.args.bytes.now body c.in_default.ensures.none same
