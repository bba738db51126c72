use Rattle.std.proofs.Common.{Ok, subst}
use Rattle.node_core.specs.declared.events.Event.TheVariants as call
use Rattle.node_core.specs.declared.events.Reply.TheVariants as reply
use Rattle.peer_core.specs.Parts.{Tries}
use Rattle.agent_api.specs.Performing.{ComesOf, ShowsMembers}
use Rattle.agent_api.proofs.Performed.{made_after}
use Rattle.agent_api.proofs.api.Api.members.Goals as goal

pub returns-in-Ok-clause-performed : goal.returns-in-Ok-clause-performed
returns-in-Ok-clause-performed g c =
    let own = c.args.self.now.agent.now.own in
    let replicas = c.args.self.now.agent.now.replicas in
    made_after (Tries call.Members reply.Members) (ComesOf (ShowsMembers own replicas)) (Ok c.in-Ok.members) c.show_members.result _ _ c.members.ensures.node c.in-Ok.ensures.did
    (subst (λ held. ShowsMembers own replicas held c.show_members.result) c.as_slice.ensures c.show_members.ensures)
