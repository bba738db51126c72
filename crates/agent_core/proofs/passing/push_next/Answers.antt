use Rattle.std.proofs.Common.{rules, ◌≡◌, ◌∙◌, ◌++◌, ℕ, Option, subst, sym}
use Rattle.std.proofs.lemmas.Result.{on_ok_weaker}
use Rattle.change_core.specs.Address.{address_text}
use Rattle.agent_core.specs.Parts.{joined}
use Rattle.agent_core.specs.Passing.{flat, next_fields}
use Rattle.agent_core.proofs.Passed.{one_next}
use Rattle.agent_core.proofs.passing.push_next.Goals as goal

pub returns : goal.returns
returns c =
    let text : c.as_bytes.result.now ≡ address_text c.in-Some.next = search rules in
    on_ok_weaker c.push_field.result
    (λ is. subst (λ (next : Option ℕ). c.push_field.new.fields.items ≡ c.args.bytes.now.items ++ joined (flat (next_fields next))) (sym c.in-Some.is)
    (is ∙ one_next c.args.bytes.now.items c.as_bytes.result.now c.in-Some.next text)) c.push_field.ensures
