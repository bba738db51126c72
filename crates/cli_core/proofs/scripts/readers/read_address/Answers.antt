use Rattle.std.proofs.Common.{sym, subst}
use Rattle.cli_core.specs.ScriptLines.{IsVisible}
use Rattle.cli_core.proofs.ScriptWords.{visible_address}
use Rattle.cli_core.proofs.scripts.readers.read_address.Goals as goal

pub returns-in_err-text-clause-exact : goal.returns-in_err-text-clause-exact
returns-in_err-text-clause-exact c = λ a valid e. absurd (c.in_err-text.ensures.exact (subst IsVisible (sym e) (visible_address a)))
