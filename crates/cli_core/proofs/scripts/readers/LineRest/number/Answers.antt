use Rattle.change_core.specs.Numeral.{number_text}
use Rattle.cli_core.proofs.ScriptWords.{visible_number}
use Rattle.cli_core.proofs.scripts.readers.LineRest.number.Goals as goal

pub returns-in_err-word-clause-exact : goal.returns-in_err-word-clause-exact
returns-in_err-word-clause-exact c = λ n rest small e. absurd (c.in_err-word.ensures.exact (number_text n) rest (visible_number n) e)

pub returns-clause-exact : goal.returns-clause-exact
returns-clause-exact c = λ n rest small e.
    let parts = c.in_ok-word.ensures.exact (number_text n) rest (visible_number n) e in
    (c.read_number.ensures.exact n small parts.0, parts.1)
