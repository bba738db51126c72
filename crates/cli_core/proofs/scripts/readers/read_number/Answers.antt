use Rattle.std.proofs.Common.{sym, subst}
use Rattle.cli_core.specs.ScriptLines.{IsVisible}
use Rattle.cli_core.proofs.ScriptWords.{visible_number}
use Rattle.cli_core.proofs.scripts.readers.read_number.Goals as goal

pub returns-in_err-read_text-clause-exact : goal.returns-in_err-read_text-clause-exact
returns-in_err-read_text-clause-exact c = λ n small e. absurd (c.in_err-read_text.ensures.exact (subst IsVisible (sym e) (visible_number n)))
