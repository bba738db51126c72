use Rattle.std.proofs.Common.{Err, Ok, inl, inr, option_copied, refl, subst}
use Rattle.node_core.specs.declared.events.Event.TheVariants as call
use Rattle.node_core.specs.declared.events.Reply.TheVariants as reply
use Rattle.peer_core.specs.Parts.{Tries}
use Rattle.agent_core.specs.declared.actions.Action.TheVariants as action
use Rattle.agent_core.specs.declared.refusals.Refusal.TheVariants.{ManyQuestions, NotJoined}
use Rattle.agent_api.specs.Performing.{After, ComesOf, Performs, ShowsRing}
use Rattle.agent_api.proofs.Performed.{made_after}
use Rattle.agent_node.proofs.Made.{made_as, made_none}
use Rattle.agent_api.proofs.api.Api.ring.Goals as goal

pub returns-then-get-clause-performed : goal.returns-then-get-clause-performed
returns-then-get-clause-performed g c =
    let agent = c.args.self.now.agent.now in
    made_none (Performs c.args.self.now.limit agent.own agent.replicas (action.Ring (option_copied c.args.after)) (Err NotJoined)) c.args.self.now.caller.now c.args.self.now.caller.now refl (inl (inl (refl, refl)))

pub returns-then-get-2-clause-performed : goal.returns-then-get-2-clause-performed
returns-then-get-2-clause-performed g c =
    let agent = c.args.self.now.agent.now in
    made_none (Performs c.args.self.now.limit agent.own agent.replicas (action.Ring (option_copied c.args.after)) (Err ManyQuestions)) c.args.self.now.caller.now c.args.self.now.caller.now refl (inl (inr (refl, refl)))

pub returns-in-Ok-clause-performed : goal.returns-in-Ok-clause-performed
returns-in-Ok-clause-performed g c =
    let own = c.args.self.now.agent.now.own in
    let replicas = c.args.self.now.agent.now.replicas in
    let after = option_copied c.args.after in
    made_as (Performs c.args.self.now.limit own replicas (action.Ring after) c.show_ring.result) (After (Tries call.Members reply.Members) (ComesOf (ShowsRing own replicas after)) c.show_ring.result) _ _
    (λ acts done. inr done)
    (made_after (Tries call.Members reply.Members) (ComesOf (ShowsRing own replicas after)) (Ok c.in-Ok.members) c.show_ring.result _ _ c.members.ensures.node c.in-Ok.ensures.did
    (subst (λ held. ShowsRing own replicas after held c.show_ring.result) c.as_slice.ensures c.show_ring.ensures))
