use Rattle.std.proofs.Common.{◌≡◌, ◌∙◌, Err, IsUtf8, ap, subst, sym}
use Rattle.std.specs.Cow.{cow_str_bytes}
use Rattle.percent_encoding.specs.declared.DecodeError.{DecodeError}
use Rattle.percent_encoding.specs.declared.DecodeError.TheVariants.{OutOfMemory, Utf8}
use Rattle.percent_encoding.specs.Percent.{percent_decode}
use Rattle.agent_core.specs.Requests.{bytes_at, text_at}
use Rattle.agent_core.proofs.Listing.{bytes_at-none, bytes_at-text, err_as, ok_as}
use Rattle.agent_core.proofs.key_lists.key_of_line.Goals as goal

abbrev IsMemory : DecodeError → Type 0
IsMemory (Utf8 e) = ⊥
IsMemory OutOfMemory = Unit {0}

pub returns-in-Ok-clause-key : goal.returns-in-Ok-clause-key
returns-in-Ok-clause-key c =
    let place = c.args.place in
    let bytes = cow_str_bytes c.in-Ok.decoded in
    let same : bytes ≡ percent_decode c.args.line.now = c.in-Ok.ensures.value ∙ c.percent_decode.ensures.bytes ∙ ap percent_decode c.as_bytes.ensures.value in
    let text : IsUtf8 bytes = subst IsUtf8 (sym c.in-Ok.ensures.value) c.in-Ok.ensures.ok_only_if_utf8 in
    let e = ap (bytes_at place) (sym same) ∙ bytes_at-text place bytes text ∙ ap (text_at place) (sym c.deref.ensures.value) in
    ok_as c.key_of_text.result _ _ e c.key_of_text.ensures.key

pub returns-in-Ok-clause-refused : goal.returns-in-Ok-clause-refused
returns-in-Ok-clause-refused c =
    let place = c.args.place in
    let bytes = cow_str_bytes c.in-Ok.decoded in
    let same : bytes ≡ percent_decode c.args.line.now = c.in-Ok.ensures.value ∙ c.percent_decode.ensures.bytes ∙ ap percent_decode c.as_bytes.ensures.value in
    let text : IsUtf8 bytes = subst IsUtf8 (sym c.in-Ok.ensures.value) c.in-Ok.ensures.ok_only_if_utf8 in
    let e = ap (bytes_at place) (sym same) ∙ bytes_at-text place bytes text ∙ ap (text_at place) (sym c.deref.ensures.value) in
    err_as c.key_of_text.result _ _ e c.key_of_text.ensures.refused

pub returns-in-Err-Utf8-clause-refused : goal.returns-in-Err-Utf8-clause-refused
returns-in-Err-Utf8-clause-refused c = λ _.
    let same = c.percent_decode.ensures.bytes ∙ ap percent_decode c.as_bytes.ensures.value in
    bytes_at-none c.args.place (percent_decode c.args.line.now)
    (λ text. subst IsMemory c.in-Err-Utf8.field-0-is (subst IsMemory (sym (c.in-Err-Utf8.ensures.utf8 (subst IsUtf8 (sym same) text))) tt))
    ∙ ap Err (sym c.bad.ensures)
