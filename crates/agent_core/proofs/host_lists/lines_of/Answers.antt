use Rattle.std.proofs.lemmas.Iterator.Consumers.{map_from_collect}
use Rattle.std.proofs.lemmas.Iterator.Splits.{YieldsList-from_lines}
use Rattle.std.specs.Str.Lines.{lines}
use Rattle.agent_core.proofs.host_lists.lines_of.Goals as goal

pub returns : goal.returns
returns c =
    map_from_collect {all = lines c.args.text.now} c.collect.result c.collect.ensures.ran (YieldsList-from_lines {s = c.lines.result} c.args.text.now c.lines.ensures.rest)
