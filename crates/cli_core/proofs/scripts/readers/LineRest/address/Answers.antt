use Rattle.change_core.specs.Address.{address_text}
use Rattle.cli_core.proofs.ScriptWords.{visible_address}
use Rattle.cli_core.proofs.scripts.readers.LineRest.address.Goals as goal

pub returns-in_err-word-clause-exact : goal.returns-in_err-word-clause-exact
returns-in_err-word-clause-exact c = λ a rest valid e. absurd (c.in_err-word.ensures.exact (address_text a) rest (visible_address a) e)

pub returns-clause-exact : goal.returns-clause-exact
returns-clause-exact c = λ a rest valid e.
    let parts = c.in_ok-word.ensures.exact (address_text a) rest (visible_address a) e in
    (c.read_address.ensures.exact a valid parts.0, parts.1)
