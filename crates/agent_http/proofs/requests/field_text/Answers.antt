use Rattle.std.proofs.Common.{rules, ◌≡◌, ◌∙◌, [], ◌∷◌, Ok, Some, ap, refl, sym, true≢false}
use Rattle.http.specs.Request.{head_of}
use Rattle.http_header.specs.HeaderMap.{get_all}
use Rattle.agent_http.proofs.Keyed.{hidden, visible}
use Rattle.agent_http.proofs.requests.field_text.Goals as goal

pub returns-in-Ok-clause-text : goal.returns-in-Ok-clause-text
returns-in-Ok-clause-text c =
    let one : get_all (head_of c.args.request.now).headers c.args.name.now ≡ c.in-Some.value.now ∷ [] = search rules in
    visible c.args.part _ c.in-Some.value.now one (c.in-Ok.ensures.succeeds.0 refl) ∙ ap (λ text. Ok (Some text)) (sym c.in-Ok.ensures.ok)

pub returns-in-Err-clause-refused : goal.returns-in-Err-clause-refused
returns-in-Err-clause-refused c =
    let one : get_all (head_of c.args.request.now).headers c.args.name.now ≡ c.in-Some.value.now ∷ [] = search rules in
    hidden c.args.part _ c.in-Some.value.now one (λ all. true≢false (sym (c.in-Err.ensures.succeeds.1 all)))
