use Rattle.std.proofs.Common.{◌≡◌, ◌∙◌, Some, None, ap, sym}
use Rattle.std.proofs.lemmas.Result.{IfErr-weaker, IfOk-weaker}
use Rattle.clap.specs.Words.{first_of, found_of}
use Rattle.cli_words.specs.Words.{rows_in}
use Rattle.cli_words.proofs.Given.{absent_of, bad_address, not_there}
use Rattle.cli_words.proofs.Rows.{first_is}
use Rattle.cli_words.proofs.cluster_words.address_at.Goals as goal

pub returns-in-Some-clause-ok : goal.returns-in-Some-clause-ok
returns-in-Some-clause-ok c = IfOk-weaker c.address_of.result _ _
    (λ a is. first_is (found_of c.args.matches.now) c.args.id.now ∙ sym c.in-Some.ensures ∙ ap Some is) c.address_of.ensures.ok

pub returns-in-Some-clause-fault : goal.returns-in-Some-clause-fault
returns-in-Some-clause-fault c = IfErr-weaker c.address_of.result _ _
    (bad_address (rows_in c.args.matches.now) c.args.id.now c.in-Some.text.now _ (first_is (found_of c.args.matches.now) c.args.id.now ∙ sym c.in-Some.ensures)) c.address_of.ensures.fault

pub returns-in-None-clause-fault : goal.returns-in-None-clause-fault
returns-in-None-clause-fault c =
    let none : first_of c.args.id.now (rows_in c.args.matches.now) ≡ None = first_is (found_of c.args.matches.now) c.args.id.now ∙ sym c.in-None.ensures in
    absent_of _ _ (not_there _ none) c.absent.result c.absent.ensures
