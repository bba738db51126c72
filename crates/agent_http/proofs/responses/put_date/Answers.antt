use Rattle.std.proofs.Common.{◌≡◌, ◌++◌, OnOk, Option, subst, sym}
use Rattle.http_server.specs.Response.{fields_of}
use Rattle.httpdate.specs.declared.date.HttpDate.{HttpDate}
use Rattle.agent_http.specs.Replies.{date_field}
use Rattle.agent_http.proofs.responses.put_date.Goals as goal

pub returns-in-Some-clause-fields : goal.returns-in-Some-clause-fields
returns-in-Some-clause-fields c =
    subst (λ (since : Option HttpDate). OnOk c.add_date.result (fields_of c.add_date.new.response ≡ fields_of c.args.response.now ++ date_field c.args.name since))
    (sym c.in-Some.is) c.add_date.ensures.fields
