use Rattle.std.proofs.Common.{◌≡◌, ◌≢◌, ◌∙◌, ◌≤◌, Global, List, None, Ok, Option, Some, Vec, ap, arith, map, subst, sym, ℕ}
use Rattle.base64.specs.GeneralPurpose.{IsBytes}
use Rattle.agent_core.specs.Parts.{joined, packed_bytes}
use Rattle.agent_core.specs.Passing.{answer_parts, named}
use Rattle.agent_core.specs.declared.passing.PassedAnswer.{PassedAnswer}
use Rattle.agent_http.proofs.Shown.{has_answer, no_answer, of_some, unread}
use Rattle.agent_http.proofs.responses.put_whole.Goals as goal

pub returns-in-Some-2-clause-shown : goal.returns-in-Some-2-clause-shown
returns-in-Some-2-clause-shown c = λ done.
    let text = c.args.text.now in
    let bytes = c.in-Some.bytes.items in
    let answer = c.in-Some-2.answer in
    let told = map named answer.fields.items in
    let is = of_some (λ (read : Vec ℕ Global). text ≡ packed_bytes read.items) _ _ c.in-Some.is c.in_ok-bytes.ensures.bytes in
    let octets = of_some (λ (read : Vec ℕ Global). IsBytes read.items) _ _ c.in-Some.is c.in_ok-bytes.ensures.octets in
    let came = of_some (λ (a : PassedAnswer). c.as_slice.result.now ≡ joined (answer_parts a.status a.body.now (map named a.fields.items))) _ _ c.in-Some-2.is c.in_ok-answer.ensures.answer in
    let range = of_some (λ (a : PassedAnswer). (200 ≤ a.status) × (a.status ≤ 599)) _ _ c.in-Some-2.is c.in_ok-answer.ensures.range in
    let shown = c.put_passed.ensures.shown done in (
      answer.status,
      answer.body.now,
      told,
      has_answer text bytes answer.status answer.body.now told is octets (sym c.as_slice.ensures.value ∙ came) range.0 range.1 shown.0,
      shown.1,
      shown.2,
    )

pub returns-in-Some-2-clause-none : goal.returns-in-Some-2-clause-none
returns-in-Some-2-clause-none c = λ done.
    let text = c.args.text.now in
    let bytes = c.in-Some.bytes.items in
    let answer = c.in-Some-2.answer in
    let told = map named answer.fields.items in
    let is = of_some (λ (read : Vec ℕ Global). text ≡ packed_bytes read.items) _ _ c.in-Some.is c.in_ok-bytes.ensures.bytes in
    let octets = of_some (λ (read : Vec ℕ Global). IsBytes read.items) _ _ c.in-Some.is c.in_ok-bytes.ensures.octets in
    let came = of_some (λ (a : PassedAnswer). c.as_slice.result.now ≡ joined (answer_parts a.status a.body.now (map named a.fields.items))) _ _ c.in-Some-2.is c.in_ok-answer.ensures.answer in
    let range = of_some (λ (a : PassedAnswer). (200 ≤ a.status) × (a.status ≤ 599)) _ _ c.in-Some-2.is c.in_ok-answer.ensures.range in
    let none = c.put_passed.ensures.none done in
    (none.0, no_answer text bytes answer.status answer.body.now told (omega (arith, c.in-Some.bytes.small)) is octets (sym c.as_slice.ensures.value ∙ came) range.1 none.1)

pub returns-clause-none : goal.returns-clause-none
returns-clause-none c = λ same.
    let is = of_some (λ (read : Vec ℕ Global). c.args.text.now ≡ packed_bytes read.items) _ _ c.in-Some.is c.in_ok-bytes.ensures.bytes in
    let octets = of_some (λ (read : Vec ℕ Global). IsBytes read.items) _ _ c.in-Some.is c.in_ok-bytes.ensures.octets in (
      c.requires,
      unread c.args.text.now c.in-Some.bytes.items is octets
          (subst (λ (read : List ℕ). (status : ℕ) (body : List ℕ) (told : List (List ℕ × List ℕ)) → 200 ≤ status → status ≤ 599 → read ≢ joined (answer_parts status body told))
          c.as_slice.ensures.value (c.in_ok-answer.ensures.none (ap Ok c.in-None.is))),
    )
