use Rattle.std.proofs.Common.{Ok, refl, subst, sym}
use Rattle.agent_core.specs.declared.actions.Action.{Action}
use Rattle.agent_core.specs.declared.actions.Action.TheVariants as action
use Rattle.agent_node.specs.Calling.{HasMade}
use Rattle.agent_api.specs.Performing.{Performs}
use Rattle.agent_http.specs.declared.replies.Reply.TheVariants.{Page}
use Rattle.agent_node.proofs.Made.{made_none}
use Rattle.agent_api.proofs.api.Api.act.Goals as goal

pub returns-in-Health-clause-performed : goal.returns-in-Health-clause-performed
returns-in-Health-clause-performed g c =
    let agent = c.args.self.now.agent.now in
    let caller = c.args.self.now.caller.now in
    subst (λ (it : Action). HasMade (Performs c.args.self.now.limit agent.own agent.replicas it c.health.result) caller caller) (sym c.in-Health.is)
    (made_none (Performs c.args.self.now.limit agent.own agent.replicas action.Health c.health.result) caller caller refl (refl, c.health.ensures))

pub returns-in-Live-clause-performed : goal.returns-in-Live-clause-performed
returns-in-Live-clause-performed g c =
    let agent = c.args.self.now.agent.now in
    let caller = c.args.self.now.caller.now in
    subst (λ (it : Action). HasMade (Performs c.args.self.now.limit agent.own agent.replicas it c.liveness.result) caller caller) (sym c.in-Live.is)
    (made_none (Performs c.args.self.now.limit agent.own agent.replicas action.Live c.liveness.result) caller caller refl (refl, c.liveness.ensures))

pub returns-in-Log-clause-performed : goal.returns-in-Log-clause-performed
returns-in-Log-clause-performed g c =
    let agent = c.args.self.now.agent.now in
    let caller = c.args.self.now.caller.now in
    subst (λ (it : Action). HasMade (Performs c.args.self.now.limit agent.own agent.replicas it c.log_level.result) caller caller) (sym c.in-Log.is)
    (made_none (Performs c.args.self.now.limit agent.own agent.replicas (action.Log c.in-Log.level) c.log_level.result) caller caller refl (refl, c.log_level.ensures))

pub returns-in-Page-clause-performed : goal.returns-in-Page-clause-performed
returns-in-Page-clause-performed g c =
    let agent = c.args.self.now.agent.now in
    let caller = c.args.self.now.caller.now in
    subst (λ (it : Action). HasMade (Performs c.args.self.now.limit agent.own agent.replicas it (Ok Page)) caller caller) (sym c.in-Page.is)
    (made_none (Performs c.args.self.now.limit agent.own agent.replicas action.Page (Ok Page)) caller caller refl (refl, refl))
