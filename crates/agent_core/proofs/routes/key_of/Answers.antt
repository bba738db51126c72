use Rattle.std.proofs.Common.{◌≡◌, ◌<◌, ◌≤◌, ◌∙◌, IsUtf8, IfOk, Ok, length, ap, arith, subst, sym}
use Rattle.std.proofs.lemmas.Bool.{eqb-false}
use Rattle.std.specs.Cow.{cow_str_bytes}
use Rattle.percent_encoding.specs.declared.DecodeError.{DecodeError}
use Rattle.percent_encoding.specs.declared.DecodeError.TheVariants.{OutOfMemory, Utf8}
use Rattle.percent_encoding.specs.Percent.{percent_decode}
use Rattle.agent_core.specs.Requests.{key_of}
use Rattle.agent_core.proofs.Requesting.{key_of-bad, copied_key}
use Rattle.agent_core.proofs.routes.key_of.Goals as goal

abbrev IsMemory : DecodeError → Type 0
IsMemory (Utf8 e) = ⊥
IsMemory OutOfMemory = Unit {0}

pub returns-in-Err-Utf8-clause-refused : goal.returns-in-Err-Utf8-clause-refused
returns-in-Err-Utf8-clause-refused c = λ _.
    let same = c.percent_decode.ensures.bytes ∙ ap percent_decode c.as_bytes.ensures.value in
    key_of-bad (percent_decode c.args.path.now) (λ text some short.
    subst IsMemory c.in-Err-Utf8.field-0-is (subst IsMemory (sym (c.in-Err-Utf8.ensures.utf8 (subst IsUtf8 (sym same) text))) tt))

pub returns-clause-key : goal.returns-clause-key
returns-clause-key c =
    let bytes = cow_str_bytes c.in-Ok.decoded in
    let same : bytes ≡ percent_decode c.args.path.now = c.in-Ok.ensures.value ∙ c.percent_decode.ensures.bytes ∙ ap percent_decode c.as_bytes.ensures.value in
    let text : IsUtf8 bytes = subst IsUtf8 (sym c.in-Ok.ensures.value) c.in-Ok.ensures.ok_only_if_utf8 in
    let not_empty = eqb-false _ _ (sym c.is_empty.ensures ∙ c.if-is_empty.false) in
    let some : 0 < length bytes = omega arith in
    let short : length bytes ≤ 1024 = omega arith in
    subst (λ b. IfOk c.text_of.result (λ key. key_of b ≡ Ok key)) same (copied_key bytes c.text_of.result text some short (rw c.deref-2.ensures.value at c.text_of.ensures.copy))
