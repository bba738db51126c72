use Rattle.std.proofs.Common.{◌≡◌, ◌∷◌, ◌++◌, [], ◌∙◌, ap, take, arith, codes}
use Rattle.std.specs.List.{flat_map}
use Rattle.std.proofs.lemmas.List.{take_all}
use Rattle.cli_core.specs.Table.{member_row, total_weight}
use Rattle.cli_core.proofs.tables.table_text.Goals as goal

pub returns-clause-text : goal.returns-clause-text
returns-clause-text c =
    let all = c.args.members.now in
    let whole : take c.members.member-index all ≡ all = take_all c.members.member-index all (omega (arith, c.members-test.false)) in
    ap (λ z. z ++ 10 ∷ []) (c.members.invariant ∙ ap (λ rows. codes "ADDRESS               STATUS    INCARNATION      WEIGHT SHARE" ++ flat_map (member_row (total_weight all)) rows) whole)
