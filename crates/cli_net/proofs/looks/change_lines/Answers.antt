use Rattle.std.proofs.Common.{◌≡◌, ◌∙◌, ◌∷◌, ap, take, arith}
use Rattle.std.specs.List.{flat_map}
use Rattle.std.proofs.lemmas.List.{take_all}
use Rattle.cli_net.specs.Membership.{change_line}
use Rattle.cli_net.proofs.Told.{change_lines-more}
use Rattle.cli_net.proofs.looks.change_lines.Goals as goal

pub others-preserved : goal.others-preserved
others-preserved c =
    let other = c.other-item.result in
    rw (c.in_ok-extend_from_slice-2.ensures.items, c.as_slice.ensures.value, c.in_ok-line.ensures.text, c.in_ok-extend_from_slice.ensures.items)
    (change_lines-more c.others.lines.items c.args.first.now c.args.others.now c.others.other-index other c.others.invariant (omega arith) c.other-item.is)

pub returns-clause-text : goal.returns-clause-text
returns-clause-text c =
    let all = c.args.others.now in
    let whole : take c.others.other-index all ≡ all = take_all c.others.other-index all (omega (arith, c.others-test.false)) in
    c.others.invariant ∙ ap (λ cs. flat_map change_line (c.args.first.now ∷ cs)) whole
