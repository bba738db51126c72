use Rattle.std.proofs.Common.{Bool, subst, sym}
use Rattle.cli_net.specs.Service.{EntersBy, TellsEntry}
use Rattle.cli_net.proofs.serving.serve_within.Goals as goal

pub returns-then-words-clause-entered : goal.returns-then-words-clause-entered
returns-then-words-clause-entered g c =
    let words = c.args.words.now in
    subst (λ (by : Bool). TellsEntry (EntersBy by words) c.serve_by_sum.result) (sym c.if-words.true) c.serve_by_sum.ensures.entered

pub returns-else-words-clause-entered : goal.returns-else-words-clause-entered
returns-else-words-clause-entered g c =
    let words = c.args.words.now in
    subst (λ (by : Bool). TellsEntry (EntersBy by words) c.serve_by_sha256.result) (sym c.if-words.false) c.serve_by_sha256.ensures.entered
