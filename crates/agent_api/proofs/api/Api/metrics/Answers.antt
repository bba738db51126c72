use Rattle.std.proofs.Common.{Ok, subst}
use Rattle.node_core.specs.declared.events.Event.TheVariants as call
use Rattle.node_core.specs.declared.events.Reply.TheVariants as reply
use Rattle.peer_core.specs.Parts.{Tries}
use Rattle.agent_api.specs.Performing.{ComesOf, ShowsCounts}
use Rattle.agent_api.proofs.Performed.{made_after}
use Rattle.agent_api.proofs.api.Api.metrics.Goals as goal

pub returns-in-Ok-clause-performed : goal.returns-in-Ok-clause-performed
returns-in-Ok-clause-performed g c =
    made_after (Tries call.Members reply.Members) (ComesOf ShowsCounts) (Ok c.in-Ok.members) c.show_counts.result _ _ c.members.ensures.node c.in-Ok.ensures.did
    (subst (λ held. ShowsCounts held c.show_counts.result) c.as_slice.ensures c.show_counts.ensures)
