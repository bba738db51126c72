use Rattle.std.proofs.Common.{◌≡◌, ◌∙◌, [], ◌∷◌, ◌++◌, ap}
use Rattle.std.proofs.lemmas.Result.{on_ok_weaker}
use Rattle.http_header.specs.FieldValue.{FieldValue, plain_value}
use Rattle.http_server.specs.Response.{fields_of}
use Rattle.httpdate.specs.Date.{date_text}
use Rattle.agent_http.proofs.responses.add_date.Goals as goal

pub returns-clause-fields : goal.returns-clause-fields
returns-clause-fields c =
    let value : c.in_ok-date.date ≡ plain_value (date_text c.args.date) = c.in_ok-date.ensures in
    on_ok_weaker c.add_header.result
    (λ is. is ∙ ap (λ (v : FieldValue). fields_of c.args.response.now ++ (c.args.name, v.bytes) ∷ []) value)
    c.add_header.ensures.headers
