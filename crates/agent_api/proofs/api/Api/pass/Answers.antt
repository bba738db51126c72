use Rattle.std.proofs.Common.{Err, Ok, inl, refl}
use Rattle.agent_core.specs.declared.actions.Action.TheVariants as action
use Rattle.agent_core.specs.declared.refusals.Refusal.TheVariants.{NotJoined}
use Rattle.agent_api.specs.Performing.{AsksIfPlaced, Performs}
use Rattle.agent_api.proofs.Performed.{made_handled}
use Rattle.agent_node.proofs.Made.{made_none}
use Rattle.agent_api.proofs.api.Api.pass.Goals as goal

pub returns-then-get-clause-performed : goal.returns-then-get-clause-performed
returns-then-get-clause-performed g c =
    let agent = c.args.self.now.agent.now in
    made_none (Performs c.args.self.now.limit agent.own agent.replicas (action.Pass c.args.key c.args.request c.args.is_repeatable) (Err NotJoined)) c.args.self.now.caller.now c.args.self.now.caller.now refl (inl (refl, refl))

pub returns-in-Ok-clause-performed : goal.returns-in-Ok-clause-performed
returns-in-Ok-clause-performed g c =
    let agent = c.args.self.now.agent.now in
    let asked = rw (c.find.ensures.agent, c.find.ensures.limit) at c.ask_if_placed.ensures.asked in
    made_handled c.args.self.now.limit agent.own agent.replicas c.args.key c.args.request c.args.is_repeatable (Ok c.in-Ok.found) c.ask_if_placed.result _ _ _ c.in-Ok.ensures.found asked

pub returns-in-Err-clause-performed : goal.returns-in-Err-clause-performed
returns-in-Err-clause-performed g c =
    let agent = c.args.self.now.agent.now in
    let why = c.in-Err.refusal in
    let caller = c.find.new.self.caller.now in
    made_handled c.args.self.now.limit agent.own agent.replicas c.args.key c.args.request c.args.is_repeatable (Err why) (Err why) _ _ _ c.in-Err.ensures.found
    (made_none (AsksIfPlaced c.args.self.now.limit agent.own c.args.key c.args.request c.args.is_repeatable (Err why) (Err why)) caller caller refl (refl, refl))
