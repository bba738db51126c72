use Rattle.agent.specs.Texts.{agent_text}
use Rattle.agent.proofs.Written.{prefix_none}
use Rattle.agent.proofs.runs.run.Goals as goal

pub returns-in_err-agent-clause-prefix : goal.returns-in_err-agent-clause-prefix
returns-in_err-agent-clause-prefix g c = prefix_none (g.W.Write.contents c.args.writer.now) (agent_text c.args.settings.address)
