use Rattle.std.proofs.Common.{Err, inl, inr, refl}
use Rattle.agent_core.specs.declared.actions.Action.TheVariants as action
use Rattle.agent_core.specs.declared.refusals.Refusal.TheVariants.{Memory}
use Rattle.agent_api.specs.Performing.{Performs}
use Rattle.agent_api.proofs.Performed.{made_body}
use Rattle.agent_node.proofs.Made.{made_none}
use Rattle.agent_api.proofs.api.Api.handle.Goals as goal

pub returns-in-Ok-clause-performed : goal.returns-in-Ok-clause-performed
returns-in-Ok-clause-performed g c =
    let agent = c.args.self.now.agent.now in
    let performed = rw c.in-Ok.ensures.text at c.pass.ensures.performed in
    made_body c.args.self.now.limit agent.own agent.replicas c.args.key c.args.body c.pass.result _ _ performed

pub returns-in-Err-clause-performed : goal.returns-in-Err-clause-performed
returns-in-Err-clause-performed g c =
    let agent = c.args.self.now.agent.now in
    made_none (Performs c.args.self.now.limit agent.own agent.replicas (action.Handle c.args.key c.args.body) (Err Memory)) c.args.self.now.caller.now c.args.self.now.caller.now refl (inl (inr (refl, refl)))
