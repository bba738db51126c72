use Rattle.std.proofs.Common.{◌∙◌}
use Rattle.agent_core.proofs.Requesting.{has_name}
use Rattle.agent_core.proofs.questions.is_named.Goals as goal

pub returns : goal.returns
returns c = c.is_some.ensures ∙ has_name c.args.name.now c.args.parameter.now c.strip_prefix.result c.strip_prefix.ensures.cases
