use Rattle.cli_core.proofs.ScriptWords.{none_found, some_alone, found_parts, found_rest}
use Rattle.cli_core.proofs.scripts.readers.split_space.Goals as goal

pub returns-in_err-place-clause-exact : goal.returns-in_err-place-clause-exact
returns-in_err-place-clause-exact c = λ word rest visible e. absurd (none_found c.args.line.now word rest c.in_err-place.ensures visible e)

pub returns-clause-read : goal.returns-clause-read
returns-clause-read c = found_parts c.args.line.now c.in_ok-place.place c.in_ok-place.ensures

pub returns-clause-exact : goal.returns-clause-exact
returns-clause-exact c = λ word rest visible e. found_rest c.args.line.now word rest c.in_ok-place.place c.in_ok-place.ensures visible e

pub returns-clause-alone : goal.returns-clause-alone
returns-clause-alone c = λ visible. absurd (some_alone c.args.line.now c.in_ok-place.place c.in_ok-place.ensures visible)
