use Rattle.std.proofs.lemmas.Result.{err_from_is_err_and}
use Rattle.cli_core.specs.Owner.{hash_by}
use Rattle.cli_net.proofs.Owned.{left_by}
use Rattle.cli_net.specs.Owning.{IsAnswered}
use Rattle.cli_net.proofs.owners.ask_any_over.Goals as goal

pub returns-in_err-text-clause-fault : goal.returns-in_err-text-clause-fault
returns-in_err-text-clause-fault g c =
    let words = c.args.words.now in
    let May = g.L.Link.may_answer in
    let hash = hash_by words.sum in
    let p = err_from_is_err_and c.from_residual.result c.from_residual.ensures.1 in
    rw (p.1, p.2) (left_by May words.host hash words.replicas words.key.now words.body.now
    (IsAnswered May words.host hash words.replicas words.key.now words.body.now) _ (g.W.Write.contents c.args.writer.now) c.in_err-text.ensures.fault)
