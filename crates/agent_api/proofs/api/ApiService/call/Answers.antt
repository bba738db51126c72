use Rattle.std.proofs.Common.{◌∙◌, inl, inr, refl, sym}
use Rattle.agent_api.proofs.Answering.{answered_by, shown_if_ok}
use Rattle.agent_api.proofs.api.ApiService.call.Goals as goal

pub returns-else-is_err-clause-ok : goal.returns-else-is_err-clause-ok
returns-else-is_err-clause-ok g c =
    let agent = c.args.self.now.agent.now in
    let said = c.answer.ensures.answered in (
      c.answer.ensures.agent,
      answered_by agent.own agent.replicas agent.key_field c.args.request.now c.answer.new.response said.0 _ _ said.1
          (inl (shown_if_ok c.answer.result (sym c.is_err.ensures.value ∙ c.if-is_err.false) said.2)),
    )

pub returns-then-is_err-clause-ok : goal.returns-then-is_err-clause-ok
returns-then-is_err-clause-ok g c =
    let agent = c.args.self.now.agent.now in
    let said = c.answer.ensures.answered in (
      c.answer.ensures.agent,
      answered_by agent.own agent.replicas agent.key_field c.args.request.now
          (record { status = 503; headers = c.clear.new.self.headers; body = c.clear.new.self.body }) said.0 _ _ said.1
          (inr (record { status = refl; headers = c.clear.ensures.headers; body = c.clear.ensures.body })),
    )
