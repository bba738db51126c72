use Rattle.std.proofs.Common.{ℕ, Err, Option, inl, refl, subst}
use Rattle.agent_core.specs.declared.refusals.Refusal.{Refusal}
use Rattle.agent_core.specs.declared.refusals.Refusal.TheVariants.{Memory}
use Rattle.agent_api.specs.Asking.{answerer}
use Rattle.agent_api.specs.Performing.{AsksOwner, SettledBy}
use Rattle.agent_api.proofs.Requested.{made_asked}
use Rattle.agent_node.proofs.Made.{made_none}
use Rattle.agent_api.proofs.api.Api.ask_owner.Goals as goal

pub returns-in_default-clause-asked : goal.returns-in_default-clause-asked
returns-in_default-clause-asked g c =
    made_none (AsksOwner c.args.self.now.limit c.args.self.now.agent.now.own c.args.key c.args.request c.args.is_repeatable (Err Memory)) c.args.self.now.caller.now
    c.args.self.now.caller.now refl (inl (refl, refl))

pub returns-clause-asked : goal.returns-clause-asked
returns-clause-asked g c =
    let it = c.ask-answer.ensures.requested in
    let own = c.args.self.now.agent.now.own in
    made_asked c.in-Ok.keys c.args.request c.ask-answer.result.0 c.args.is_repeatable it.0 it.1 c.args.self.now.caller.now c.ask-answer.new.self.caller.now
    c.args.self.now.limit own c.args.key it.3.0 c.settle.result c.in-Ok.ensures.ok it.4
    (subst (λ (ending : Option Refusal). SettledBy (answerer own it.0 it.1.last) ending c.ask-answer.result.0 c.settle.result) it.3.1
    (subst (λ (owner : ℕ). SettledBy owner c.ask-answer.result.2 c.ask-answer.result.0 c.settle.result) it.2 c.settle.ensures))
