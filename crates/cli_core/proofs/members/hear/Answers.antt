use Rattle.std.proofs.Common.{inr, refl}
use Rattle.std.proofs.lemmas.Result.{err_from_is_err_and}
use Rattle.cli_core.proofs.Folding.{unread, counted_read, last_line, bad_line, good_line}
use Rattle.cli_core.proofs.members.hear.Goals as goal

pub returns-in_err-line-clause-heard : goal.returns-in_err-line-clause-heard
returns-in_err-line-clause-heard g c =
    let p = err_from_is_err_and c.from_residual.result c.from_residual.ensures.1 in
    rw (p.1, p.2) (unread (g.R.Read.remaining c.args.reader.now) (g.R.Read.remaining c.next_line.new.reader) c.args.table.now.members c.in_err-line.field-0.0 c.in_err-line.ensures.read)

pub returns-in_err-take_line-clause-heard : goal.returns-in_err-take_line-clause-heard
returns-in_err-take_line-clause-heard g c =
    let p = err_from_is_err_and c.from_residual-in_err-take_line.result c.from_residual-in_err-take_line.ensures.1 in
    let fault = rw c.as_slice.ensures.value at c.in_err-take_line.ensures.err in
    rw (p.1, p.2) (bad_line _ _ _ c.in-Some.line _ (rw c.in-Some.is at c.in_ok-line.ensures.read) fault)

pub returns-clause-heard : goal.returns-clause-heard
returns-clause-heard g c =
    let taken = rw c.as_slice.ensures.value at c.in_ok-take_line.ensures.ok in
    good_line (g.R.Read.remaining c.args.reader.now) (g.R.Read.remaining c.next_line.new.reader) c.args.table.now.members c.take_line.new.table.members c.in-Some.line (rw c.in-Some.is at c.in_ok-line.ensures.read) taken

pub returns-in_err-line-clause-own : goal.returns-in_err-line-clause-own
returns-in_err-line-clause-own g c =
    let p = err_from_is_err_and c.from_residual.result c.from_residual.ensures.1 in
    rw (p.1, p.2) (counted_read c.args.number _ c.in_err-line.ensures.fault)

pub returns-in_err-take_line-clause-own : goal.returns-in_err-take_line-clause-own
returns-in_err-take_line-clause-own g c =
    let p = err_from_is_err_and c.from_residual-in_err-take_line.result c.from_residual-in_err-take_line.ensures.1 in
    rw p.1 (inr ((rw c.in-Some.is at c.in_ok-line.ensures.counted) refl))

pub returns-clause-counted : goal.returns-clause-counted
returns-clause-counted g c = λ t. (rw c.in-Some.is at c.in_ok-line.ensures.counted) refl
