use Rattle.std.proofs.Common.{◌≡◌, ◌∙◌, None, codes, sym}
use Rattle.clap.specs.Words.{first_of, found_of}
use Rattle.cli_words.specs.Words.{rows_in}
use Rattle.cli_words.proofs.Given.{not_there}
use Rattle.cli_words.proofs.Rows.{first_is}
use Rattle.cli_words.proofs.words.lines_of.Goals as goal

pub returns-in_err-text-in-hash-clause-taken : goal.returns-in_err-text-in-hash-clause-taken
returns-in_err-text-in-hash-clause-taken c = λ name whole.
    let none : first_of (codes "text") (rows_in c.args.matches.now) ≡ None = first_is (found_of c.args.matches.now) (codes "text") ∙ sym c.in_err-text-in-hash.ensures in
    absurd (not_there _ none (whole.hash c.in-hash.is))

pub returns-in_ok-text-in-hash-clause-lines : goal.returns-in_ok-text-in-hash-clause-lines
returns-in_ok-text-in-hash-clause-lines c =
    (c.in-hash.is, first_is (found_of c.args.matches.now) (codes "text") ∙ sym c.in_ok-text-in-hash.ensures)
