use Rattle.std.proofs.Common.{rules, ◌≡◌, None, Some, arith}
use Rattle.clap.specs.Words.{found_of}
use Rattle.cli_words.specs.Words.{IsNumberAt, rows_in}
use Rattle.cli_words.proofs.Given.{number_is, number_read, some_within}
use Rattle.cli_words.proofs.words.number.Goals.{then-least-given, else-least-given}
use Rattle.cli_words.proofs.words.number.Goals as goal

pub returns-in_err-given-clause-taken : goal.returns-in_err-given-clause-taken
returns-in_err-given-clause-taken c = λ n at low high.
    let never : None ≡ Some n = number_read (found_of c.args.matches.now) c.args.id.now None c.in_err-given.ensures.value n at in cc

pub returns-clause-given : goal.returns-clause-given
returns-clause-given c =
    let at : IsNumberAt (rows_in c.args.matches.now) c.args.id.now c.in_ok-given.given =
    number_is (found_of c.args.matches.now) c.args.id.now (Some c.in_ok-given.given) c.in_ok-given.ensures.none c.in_ok-given.ensures.value in
    search rules

pub returns-clause-taken : goal.returns-clause-taken
returns-clause-taken c = λ n at low high.
    let same : Some c.in_ok-given.given ≡ Some n = number_read (found_of c.args.matches.now) c.args.id.now (Some c.in_ok-given.given) c.in_ok-given.ensures.value n at in
    elim c.if-least-given.branch [
      | then-least-given w ↦ some_within c.then_some.result c.if-least-given.then_some c.in_ok-given.given n c.args.most c.then_some.ensures w.then_some-is same high
      | else-least-given w ↦ (let equal : c.in_ok-given.given ≡ n = cc in absurd (omega arith))
    ]
