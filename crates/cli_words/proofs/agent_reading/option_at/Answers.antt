use Rattle.std.proofs.Common.{◌≡◌, ◌∙◌, Some, ap, sym}
use Rattle.clap.specs.Words.{first_of, found_of}
use Rattle.cli_words.specs.Faults.{IsRefusalOf}
use Rattle.cli_words.specs.Whole.{IsNoAddressAt}
use Rattle.cli_words.specs.Words.{rows_in}
use Rattle.cli_words.proofs.Given.{bad_address, handed_on}
use Rattle.cli_words.proofs.Rows.{first_is}
use Rattle.cli_words.proofs.agent_reading.option_at.Goals as goal

pub returns-in_err-address_of-in-Some-clause-fault : goal.returns-in_err-address_of-in-Some-clause-fault
returns-in_err-address_of-in-Some-clause-fault c =
    let rows = rows_in c.args.matches.now in
    let first : first_of c.args.id.now rows ≡ Some c.in-Some.text.now = first_is (found_of c.args.matches.now) c.args.id.now ∙ sym c.in-Some.ensures in
    let fault = c.in_err-address_of-in-Some.field-0.0 in
    handed_on c.from_residual.result fault (IsRefusalOf (Unit {0}) (IsNoAddressAt rows c.args.id.now)) c.from_residual.ensures.1
    (bad_address rows c.args.id.now c.in-Some.text.now (Unit {0}) first fault c.in_err-address_of-in-Some.ensures.fault)

pub returns-in_ok-address_of-in-Some-clause-ok : goal.returns-in_ok-address_of-in-Some-clause-ok
returns-in_ok-address_of-in-Some-clause-ok c =
    first_is (found_of c.args.matches.now) c.args.id.now ∙ sym c.in-Some.ensures ∙ ap Some c.in_ok-address_of-in-Some.ensures.ok

pub returns-in-None-clause-ok : goal.returns-in-None-clause-ok
returns-in-None-clause-ok c = first_is (found_of c.args.matches.now) c.args.id.now ∙ sym c.in-None.ensures
