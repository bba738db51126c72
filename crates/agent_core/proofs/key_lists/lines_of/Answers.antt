use Rattle.std.proofs.Common.{subst, sym, take}
use Rattle.std.proofs.lemmas.Iterator.{YieldsList, YieldsList-from_take}
use Rattle.std.proofs.lemmas.Iterator.Consumers.{map_from_collect}
use Rattle.std.proofs.lemmas.Iterator.Splits.{YieldsList-from_lines}
use Rattle.std.specs.Str.Iter.{lines_steps}
use Rattle.std.specs.Str.Lines.{lines}
use Rattle.agent_core.proofs.key_lists.lines_of.Goals as goal

pub returns : goal.returns
returns c =
    let all = YieldsList-from_lines {s = c.lines.result} c.args.text.now c.lines.ensures.rest in
    let road = YieldsList-from_take {s = c.take.result} 4097 (subst (λ i. YieldsList lines_steps (λ x. x.now) i (lines c.args.text.now)) (sym c.take.ensures.source) all) c.take.ensures.count in
    map_from_collect {all = take 4097 (lines c.args.text.now)} c.collect.result c.collect.ensures.ran road
