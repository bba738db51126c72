use Rattle.std.proofs.Common.{◌≡◌, ◌++◌, ◌∙◌, ap, take, arith}
use Rattle.std.specs.List.{flat_map}
use Rattle.std.proofs.lemmas.List.{take_all}
use Rattle.change_core.specs.Address.{address_text}
use Rattle.cli_core.specs.ScriptAnswers.{spaced}
use Rattle.cli_core.proofs.scripts.answers.joined.Goals as goal

pub returns-clause-text : goal.returns-clause-text
returns-clause-text c =
    let all = c.args.others.now in
    let whole : take c.others.other-index all ≡ all = take_all c.others.other-index all (omega (arith, c.others-test.false)) in
    c.others.invariant ∙ ap (λ os. address_text c.args.first ++ flat_map spaced os) whole
