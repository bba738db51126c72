use Rattle.std.proofs.Common.{◌≡◌, ◌∙◌, None, codes, sym}
use Rattle.clap.specs.Words.{first_of, found_of}
use Rattle.cli_words.specs.Words.{rows_in}
use Rattle.cli_words.proofs.Given.{not_there}
use Rattle.cli_words.proofs.Rows.{first_is}
use Rattle.cli_words.proofs.words.owner_words.Goals as goal

pub returns-in_err-key-clause-taken : goal.returns-in_err-key-clause-taken
returns-in_err-key-clause-taken c = λ has.
    let none : first_of (codes "key") (rows_in c.args.matches.now) ≡ None = first_is (found_of c.args.matches.now) (codes "key") ∙ sym c.in_err-key.ensures in
    absurd (not_there _ none has.key)

pub returns-clause-owned : goal.returns-clause-owned
returns-clause-owned c = record {
  count = c.in_ok-count.ensures.given;
  replicas = c.in_ok-replicas.ensures.given;
  sum = c.flag.ensures;
  key = first_is (found_of c.args.matches.now) (codes "key") ∙ sym c.in_ok-key.ensures;
}
