use Rattle.std.proofs.Common.{inl, inr}
use Rattle.std.proofs.lemmas.Result.{err_from_is_err_and}
use Rattle.wire_json.proofs.message_lines.news_in.Goals as goal

pub returns-in_err-checksum : goal.returns-in_err-checksum
returns-in_err-checksum c =
    let p = err_from_is_err_and c.from_residual.result c.from_residual.ensures.1 in
    rw (p.1, p.2) (λ _. inl c.in_err-checksum.ensures)

pub returns-in_err-changes : goal.returns-in_err-changes
returns-in_err-changes c =
    let p = err_from_is_err_and c.from_residual-in_err-changes.result c.from_residual-in_err-changes.ensures.1 in
    rw (p.1, p.2) (λ h. inr ((_, c.in_ok-checksum.ensures), inl (c.in_err-changes.ensures h)))
