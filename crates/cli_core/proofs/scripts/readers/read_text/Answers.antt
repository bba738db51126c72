use Rattle.std.specs.Str.{IsValidUpTo, valid_up_to}
use Rattle.cli_core.proofs.ScriptWords.{text_exact, visible_text}
use Rattle.cli_core.proofs.scripts.readers.read_text.Goals as goal

pub returns-clause-exact : goal.returns-clause-exact
returns-clause-exact c = λ visible.
    text_exact c.args.word.now (λ e. IsValidUpTo c.args.word.now (valid_up_to e)) c.from_utf8.result c.ok.result c.ok.ensures.value c.from_utf8.ensures.cases (visible_text c.args.word.now visible)
