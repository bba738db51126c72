use Rattle.std.proofs.Common.{refl, ◌∙◌}
use Rattle.cli_core.proofs.ScriptVerbs.{no_take, no_owners, no_send}
use Rattle.cli_core.proofs.scripts.lines.read_arguments.Goals as goal

pub returns-in_err-node-in-Take-clause-none : goal.returns-in_err-node-in-Take-clause-none
returns-in_err-node-in-Take-clause-none c = λ q d e h. no_take c.args.words.rest.now (c.in_err-node-in-Take.ensures.none refl) d (e ∙ c.in-Take.is) h

pub returns-in_err-node-in-Owners-clause-none : goal.returns-in_err-node-in-Owners-clause-none
returns-in_err-node-in-Owners-clause-none c = λ q d e h. no_owners c.args.words.rest.now (c.in_err-node-in-Owners.ensures.none refl) d (e ∙ c.in-Owners.is) h

pub returns-in_err-node-in-Send-clause-none : goal.returns-in_err-node-in-Send-clause-none
returns-in_err-node-in-Send-clause-none c = λ q d e h. no_send c.args.words.rest.now (c.in_err-node-in-Send.ensures.none refl) d (e ∙ c.in-Send.is) h
