use Rattle.std.proofs.Common.{◌∙◌, ◌≡◌, Bool, ap}
use Rattle.std.specs.Prelude.{◌||◌}
use denote.Ref.{Bor}
use Rattle.peer_core.specs.Links.{Went}
use Rattle.agent_api.specs.Asking.{answerer}
use Rattle.agent_api.specs.Onces.{Noted, noted_by, sends_once}
use Rattle.agent_api.specs.Patience.{asks_patiently}
use Rattle.agent_node.specs.declared.agents.Agent.{Agent}
use Rattle.agent_api.specs.declared.onces.OnceLink.{OnceLink}
use Rattle.agent_api.specs.declared.patience.Patient.{Patient}
use Rattle.agent_api.proofs.Requested.{made_requested, makes_noted}
use Rattle.agent_api.proofs.api.Api.ask_once.Goals as goal

pub returns-clause-requested : goal.returns-clause-requested
returns-clause-requested g c =
    let asked_of : Patient g.row.R.Denot → Bool = λ h. h.was_asked in
    let noted_of : OnceLink g.row.R.Denot g.row.R.Denot → Noted = λ l. noted_by l in
    let went : Went (OnceLink g.row.R.Denot g.row.R.Denot) = sends_once (λ to limit connection a b. b ≡ a) in
    let old = c.args.self.now.caller.now in
    let it = c.ask_over in
    let new = it.new.caller in (
      asked_of it.new.handler,
      noted_of it.new.once,
      it.ensures.owner ∙ ap (λ (agent : Bor (Agent g.row.R.Denot)). answerer agent.now.own it.new.handler.was_asked it.new.once.last) c.begin-patience.ensures,
      (it.new.once.is_over || it.new.handler.is_over, it.ensures.ending),
      made_requested c.args.keys c.args.request it.result.0 c.args.is_repeatable (asked_of it.new.handler) (noted_of it.new.once) old new
          (λ keys body answer. asks_patiently keys body answer c.new-handler.result it.new.handler) it.ensures.node it.ensures.did
          (makes_noted asks_patiently asked_of (λ keys body answer was is called. called) went noted_of (λ to message answer was is goes. goes.2)
          c.args.keys c.args.request it.result.0 c.new-handler.result it.new.handler c.new-once.result it.new.once c.args.is_repeatable
          c.new-handler.ensures.asked c.new-once.ensures.noted old.node old.pass new.pass it.ensures.sent),
    )
