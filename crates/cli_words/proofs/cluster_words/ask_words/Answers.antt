use Rattle.std.proofs.Common.{◌≡◌, ◌∙◌, None, codes, sym}
use Rattle.clap.specs.Words.{first_of, found_of}
use Rattle.cli_words.specs.Whole.{HasAsked, HasBadAddress}
use Rattle.cli_words.specs.Words.{rows_in}
use Rattle.cli_words.proofs.Given.{absent_of, not_there}
use Rattle.cli_words.proofs.Rows.{first_is}
use Rattle.cli_words.proofs.cluster_words.ask_words.Goals.{in_default-via-in-Some+in_default, in_default-via-in_default}
use Rattle.cli_words.proofs.cluster_words.ask_words.Goals as goal

pub returns-in_default-clause-fault : goal.returns-in_default-clause-fault
returns-in_default-clause-fault c =
    let rows = rows_in c.args.matches.now in
    elim c.in_default.branch [
      | in_default-via-in-Some+in_default w ↦
          let none : first_of (codes "body") rows ≡ None = first_is (found_of c.args.matches.now) (codes "body") ∙ sym w.in_default.ensures' in
          absent_of (HasAsked rows) (HasBadAddress rows) (λ has. not_there _ none has.body) c.absent.result c.absent.ensures
      | in_default-via-in_default w ↦
          let none : first_of (codes "key") rows ≡ None = first_is (found_of c.args.matches.now) (codes "key") ∙ sym w.in_default.ensures in
          absent_of (HasAsked rows) (HasBadAddress rows) (λ has. not_there _ none has.key) c.absent.result c.absent.ensures
    ]

pub returns-clause-asked : goal.returns-clause-asked
returns-clause-asked c = record {
  address = c.in_ok-address.ensures.ok;
  key = first_is (found_of c.args.matches.now) (codes "key") ∙ sym c.in-Some-Some.ensures;
  body = first_is (found_of c.args.matches.now) (codes "body") ∙ sym c.in-Some-Some.ensures';
}
