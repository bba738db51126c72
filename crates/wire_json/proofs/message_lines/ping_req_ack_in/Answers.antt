use Rattle.std.proofs.Common.{[], ◌∷◌, inl, inr}
use Rattle.std.proofs.lemmas.Result.{err_from_is_err_and}
use Rattle.message_core.specs.declared.fields.Field.TheVariants as field
use Rattle.wire_json.specs.Fields.{address, truth}
use Rattle.wire_json.specs.MessageFaults.{plain, news_parts}
use Rattle.wire_json.proofs.Unmet.{unmet_before}
use Rattle.wire_json.proofs.message_lines.ping_req_ack_in.Goals as goal

pub returns-in_err-news : goal.returns-in_err-news
returns-in_err-news c =
    let p = err_from_is_err_and c.from_residual.result c.from_residual.ensures.1 in
    rw (p.1, p.2) (λ h. unmet_before news_parts (plain address field.Target ∷ plain truth field.Reached ∷ []) _ _ (c.in_err-news.ensures h))

pub returns-in_err-target : goal.returns-in_err-target
returns-in_err-target c =
    let p = err_from_is_err_and c.from_residual-in_err-target.result c.from_residual-in_err-target.ensures.1 in
    let news = c.in_ok-news.ensures in
    rw (p.1, p.2) (λ _. inr ((_, news.checksum), inr ((_, news.changes), inl c.in_err-target.ensures)))

pub returns-in_err-reached : goal.returns-in_err-reached
returns-in_err-reached c =
    let p = err_from_is_err_and c.from_residual-in_err-reached.result c.from_residual-in_err-reached.ensures.1 in
    let news = c.in_ok-news.ensures in
    rw (p.1, p.2) (λ _. inr ((_, news.checksum), inr ((_, news.changes), inr ((_, c.in_ok-target.ensures), inl c.in_err-reached.ensures))))
