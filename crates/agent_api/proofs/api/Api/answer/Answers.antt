use Rattle.std.proofs.Common.{subst, sym}
use Rattle.std.proofs.lemmas.Result.{on_ok_weaker}
use Rattle.agent_api.specs.Answers.{ShowsOutcome}
use Rattle.agent_api.specs.Performing.{Outcome}
use Rattle.agent_api.proofs.api.Api.answer.Goals as goal

pub returns-in-Ok-clause-answered : goal.returns-in-Ok-clause-answered
returns-in-Ok-clause-answered g c =
    let form = c.form-form.result in
    let response = c.put_reply.new.response in (
      c.reply-reply.result,
      c.reply-reply.ensures.settled,
      on_ok_weaker c.put_reply.result (λ shows. (form, c.form-form.ensures, subst (λ (it : Outcome). ShowsOutcome it form response) (sym c.in-Ok.is) shows)) c.put_reply.ensures,
    )

pub returns-clause-answered : goal.returns-clause-answered
returns-clause-answered g c =
    let form = c.form-form.result in
    let response = c.put_refusal.new.response in (
      c.reply-reply.result,
      c.reply-reply.ensures.settled,
      on_ok_weaker c.put_refusal.result (λ shows. (form, c.form-form.ensures, subst (λ (it : Outcome). ShowsOutcome it form response) (sym c.in-Err.is) shows)) c.put_refusal.ensures,
    )
