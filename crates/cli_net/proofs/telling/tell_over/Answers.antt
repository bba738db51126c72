use Rattle.std.proofs.lemmas.Result.{err_from_is_err_and}
use Rattle.cli_net.proofs.ToldLines.{unread_by}
use Rattle.cli_net.proofs.telling.tell_over.Goals as goal

pub returns-in_err-changes-clause-fault : goal.returns-in_err-changes-clause-fault
returns-in_err-changes-clause-fault g c =
    let p = err_from_is_err_and c.from_residual.result c.from_residual.ensures.1 in
    rw (p.1, p.2) (unread_by g.L.Link.may_answer c.args.host (g.I.Read.remaining c.args.reader.now) (g.W.Write.contents c.args.writer.now) _ c.in_err-changes.ensures.fault)
