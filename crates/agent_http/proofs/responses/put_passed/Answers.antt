use Rattle.std.proofs.Common.{◌≡◌, ◌∙◌, ◌++◌, Global, List, None, Ok, Option, Some, Vec, ap, codes, map, refl, subst, sym, ℕ}
use Rattle.std.specs.List.{All}
use Rattle.http_header.specs.FieldValue.{FieldValue}
use Rattle.http1.specs.Fields.{Header}
use Rattle.http_server.specs.Response.{IsResponse, fields_of}
use Rattle.agent_core.specs.Passing.{named}
use Rattle.agent_core.specs.declared.passing.Field.{Field}
use Rattle.agent_http.specs.Replies.{IsField, closing, date_field, lower, named_owner}
use Rattle.agent_http.proofs.Shown.{AreShown, grown, of_some}
use Rattle.agent_http.proofs.responses.put_passed.Goals as goal

pub returns-in_default-clause-none : goal.returns-in_default-clause-none
returns-in_default-clause-none c = λ same. (
  c.requires.blank,
  subst (λ (given : List Field). ¬ (All IsField (map named given))) c.as_slice.ensures.value (c.in_ok-fields.ensures.none (ap Ok c.in_default.is)),
)

pub returns-clause-shown : goal.returns-clause-shown
returns-clause-shown c = λ same.
    let said = of_some (λ (shown : Vec (List ℕ × FieldValue) Global). AreShown c.as_slice.result.now shown.items) _ _ c.in-Some.is c.in_ok-fields.ensures.fields in
    let shown = subst (λ (given : List Field). AreShown given c.in-Some.fields.items) c.as_slice.ensures.value said in
    let status = c.args.answer.now.status in
    let body = c.args.answer.now.body.now in
    let front = closing c.args.form.now.closes in
    let told = front ++ map lower (map named c.args.answer.now.fields.items) in
    let date = c.missing_date-date.result in
    let dated = date_field (codes "date") date in
    let whole : IsResponse status told body c.put_shown.new.response =
    subst (λ (z : List Header). IsResponse status (front ++ z) body c.put_shown.new.response) shown.1 c.in_ok-put_shown.ensures in
    let more : fields_of c.put_date.new.response ≡ fields_of c.put_shown.new.response ++ dated =
    c.in_ok-put_date.ensures.fields ∙ ap (λ (name : List ℕ). fields_of c.put_shown.new.response ++ date_field name date) c.from_static.ensures in
    let next = grown status told dated body c.put_shown.new.response c.put_date.new.response whole
    c.in_ok-put_date.ensures.status c.in_ok-put_date.ensures.body more in (
      shown.0,
      date,
      grown status (told ++ dated) (named_owner c.args.owner) body c.put_date.new.response c.put_owner.new.response next
          c.in_ok-put_owner.ensures.status c.in_ok-put_owner.ensures.body c.in_ok-put_owner.ensures.fields,
    )
