use Rattle.std.proofs.Common.{◌≡◌, ◌∙◌, refl, subst}
use Rattle.http_server.specs.Connection.{history}
use Rattle.http_server.specs.History.{Rests}
use Rattle.agent_api.specs.Answers.{IsAnswered}
use Rattle.agent_node.specs.Calling.{HasMade}
use Rattle.agent_api.proofs.Conversing.{chain_answered, sends_answers}
use Rattle.agent_api.proofs.connections.serve_over.Goals as goal

pub returns-clause-answers : goal.returns-clause-answers
returns-clause-answers g c =
    let agent = c.args.api.now.agent in
    let own = agent.now.own in
    let replicas = agent.now.replicas in
    let any = agent.now.key_field in
    let said = c.pump.ensures in
    let answered = chain_answered _ own replicas any (λ api. api.agent ≡ agent) (λ api. api.caller.now)
    (λ a b request response ours step. (
      step.0 ∙ ours,
      subst (λ node. HasMade (IsAnswered node.now.own node.now.replicas node.now.key_field request response) a.caller.now b.caller.now) ours step.1,
    ))
    said.calls.0 c.args.api.now c.pump.new.service refl said.calls.2 in
    sends_answers own replicas any c.args.connection.now c.pump.new.connection
    (g.I.Read.remaining c.args.reader.now) (g.I.Read.remaining c.pump.new.reader) (g.O.Write.contents c.args.writer.now) (g.O.Write.contents c.pump.new.writer)
    c.args.api.now.caller.now c.pump.new.service.caller.now
    (said.config ∙ c.requires)
    said.read said.written said.calls.0 said.calls.1 answered

pub returns-clause-settled : goal.returns-clause-settled
returns-clause-settled g c = λ is. (
  c.pump.ensures.flushed is,
  subst (λ config. Rests config (history c.pump.new.connection)) (c.pump.ensures.config ∙ c.requires) (c.pump.ensures.input is),
)
