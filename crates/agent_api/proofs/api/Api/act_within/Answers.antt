use Rattle.std.proofs.Common.{Err, Option, Result, ℕ, refl, subst, sym}
use Rattle.agent_core.specs.declared.refusals.Refusal.{Refusal}
use Rattle.agent_api.specs.Answers.{PerformsBy}
use Rattle.agent_node.specs.Calling.{HasMade}
use Rattle.agent_node.proofs.Made.{made_none}
use Rattle.agent_api.proofs.api.Api.act_within.Goals as goal

pub returns-in-Ok-clause-performed : goal.returns-in-Ok-clause-performed
returns-in-Ok-clause-performed g c =
    let agent = c.args.self.now.agent.now in
    subst (λ (limit : Result (Option ℕ) Refusal). HasMade (PerformsBy limit agent.own agent.replicas c.args.action c.act.result) c.args.self.now.caller.now c.act.new.self.caller.now)
    (sym c.in-Ok.is) c.act.ensures.performed

pub returns-in-Err-clause-performed : goal.returns-in-Err-clause-performed
returns-in-Err-clause-performed g c =
    let agent = c.args.self.now.agent.now in
    let caller = c.args.self.now.caller.now in
    let why = c.in-Err.refusal in
    subst (λ (limit : Result (Option ℕ) Refusal). HasMade (PerformsBy limit agent.own agent.replicas c.args.action (Err why)) caller caller) (sym c.in-Err.is)
    (made_none (PerformsBy (Err why) agent.own agent.replicas c.args.action (Err why)) caller caller refl (refl, refl))
