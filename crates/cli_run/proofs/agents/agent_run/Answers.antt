use Rattle.std.proofs.Common.{ℕ, subst}
use Rattle.std.specs.Prelude.{OnOk}
use Rattle.std.specs.Io.KnownBytes.{Appends}
use Rattle.wire_json.specs.Input.{AppendsPrefix}
use Rattle.agent.specs.Texts.{agent_text}
use Rattle.agent.proofs.Written.{prefix_none}
use Rattle.cli_run.proofs.agents.agent_run.Goals as goal

pub returns-in_err-settings-clause-prefix : goal.returns-in_err-settings-clause-prefix
returns-in_err-settings-clause-prefix g c = prefix_none (g.W.Write.contents c.args.writer.now) (agent_text c.args.words.now.address)

pub returns-clause-served : goal.returns-clause-served
returns-clause-served g c =
    subst (λ (a : ℕ). OnOk c.run.result (Appends (g.W.Write.contents c.args.writer.now) (g.W.Write.contents c.run.new.writer) (agent_text a)))
    c.in_ok-settings.ensures.address c.run.ensures.served

pub returns-clause-prefix : goal.returns-clause-prefix
returns-clause-prefix g c =
    subst (λ (a : ℕ). AppendsPrefix (g.W.Write.contents c.args.writer.now) (g.W.Write.contents c.run.new.writer) (agent_text a))
    c.in_ok-settings.ensures.address c.run.ensures.prefix
