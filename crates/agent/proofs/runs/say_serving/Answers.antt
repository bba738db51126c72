use Rattle.agent.specs.Texts.{serving_line}
use Rattle.agent.proofs.Written.{prefix_none}
use Rattle.agent.proofs.runs.say_serving.Goals as goal

pub returns-in_err-text-clause-prefix : goal.returns-in_err-text-clause-prefix
returns-in_err-text-clause-prefix g c = prefix_none (g.W.Write.contents c.args.writer.now) (serving_line c.args.address)
