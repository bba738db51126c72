use Rattle.std.proofs.Common.{Err, inl, refl}
use Rattle.agent_core.specs.declared.actions.Action.TheVariants as action
use Rattle.agent_core.specs.declared.refusals.Refusal.TheVariants.{NotJoined}
use Rattle.agent_api.specs.Performing.{Performs}
use Rattle.agent_node.proofs.Made.{made_none}
use Rattle.agent_api.proofs.api.Api.all_owners.Goals as goal

pub returns-then-get-clause-performed : goal.returns-then-get-clause-performed
returns-then-get-clause-performed g c =
    let agent = c.args.self.now.agent.now in
    made_none (Performs c.args.self.now.limit agent.own agent.replicas (action.AllOwners c.args.keys.now c.args.count c.args.only_others) (Err NotJoined)) c.args.self.now.caller.now c.args.self.now.caller.now refl (inl (refl, refl))
