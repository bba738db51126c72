use Rattle.std.proofs.Common.{◌≡◌, List, Ok, ap, arith, get_or, ℕ}
use Rattle.http_header.specs.FieldValue.{FieldValue}
use Rattle.agent_core.specs.Passing.{named}
use Rattle.agent_http.specs.Replies.{IsField, lower}
use Rattle.agent_http.proofs.Shown.{all_shown, not_shown, of_some, one_shown}
use Rattle.agent_http.proofs.responses.headers_of.Goals as goal

pub returns-in_default-clause-none : goal.returns-in_default-clause-none
returns-in_default-clause-none c = λ same. not_shown c.args.given.now c.loop-i.i _ (omega arith) (c.in_ok-header.ensures.none (ap Ok c.in_default.is))

pub loop-i-preserved : goal.loop-i-preserved
loop-i-preserved c =
    let given = c.args.given.now in
    one_shown given c.loop-i.i _ c.in-Some.header c.loop-i.headers.items c.push.new.self.items (omega arith) c.loop-i.invariant
    (of_some (λ (header : List ℕ × FieldValue). IsField (named (get_or given c.loop-i.i _)) × ((header.0, header.1.bytes) ≡ lower (named (get_or given c.loop-i.i _)))) _ _ c.in-Some.is
    c.in_ok-header.ensures.field)
    c.in_ok-push.ensures.items

pub returns-clause-fields : goal.returns-clause-fields
returns-clause-fields c = all_shown c.args.given.now c.loop-i.i c.loop-i.headers.items (omega arith) c.loop-i.invariant
