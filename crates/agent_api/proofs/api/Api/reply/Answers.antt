use Rattle.std.proofs.Common.{Err, inr, refl}
use Rattle.agent_api.specs.Answers.{Settles}
use Rattle.agent_node.proofs.Made.{made_none}
use Rattle.agent_api.proofs.api.Api.reply.Goals as goal

pub returns-in-Err-clause-settled : goal.returns-in-Err-clause-settled
returns-in-Err-clause-settled g c =
    let agent = c.args.self.now.agent.now in
    made_none (Settles agent.own agent.replicas agent.key_field c.args.request.now (Err c.in-Err.refusal)) c.args.self.now.caller.now c.args.self.now.caller.now refl
    (inr (c.in-Err.refusal, c.in-Err.ensures.refused, (refl, refl)))
