use Rattle.std.proofs.Common.{Err, inl, refl}
use Rattle.agent_core.specs.Passing.{sent_text}
use Rattle.agent_core.specs.declared.refusals.Refusal.TheVariants.{Memory}
use Rattle.agent_api.specs.Performing.{AsksOwner}
use Rattle.agent_node.proofs.Made.{made_none}
use Rattle.agent_api.proofs.api.Api.send.Goals as goal

pub returns-in-Ok-clause-asked : goal.returns-in-Ok-clause-asked
returns-in-Ok-clause-asked g c = rw c.in-Ok.ensures.text at c.ask_owner.ensures.asked

pub returns-in-Err-clause-asked : goal.returns-in-Err-clause-asked
returns-in-Err-clause-asked g c =
    made_none (AsksOwner c.args.self.now.limit c.args.self.now.agent.now.own c.args.key (sent_text c.args.next c.args.request) c.args.is_repeatable (Err Memory)) c.args.self.now.caller.now
    c.args.self.now.caller.now refl (inl (refl, refl))
