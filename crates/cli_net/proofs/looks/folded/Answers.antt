use Rattle.std.proofs.Common.{◌≡◌, ◌∙◌, ◌++◌, ◌∷◌, [], ap, map, take, arith}
use Rattle.std.proofs.lemmas.List.{take_all}
use Rattle.change_core.specs.Members.{members}
use Rattle.cli_core.specs.Changes.{change_of}
use Rattle.cli_net.proofs.Told.{few-more, members-more}
use Rattle.cli_net.proofs.looks.folded.Goals as goal

pub changes-preserved : goal.changes-preserved
changes-preserved c =
    let sourced = c.sourced-item.result in
    let more = c.in-Ok.ensures.ok.1 in
    let before = map change_of (take c.changes.sourced-index c.args.changes.now) in
    let one = few-more before c.changes.table.members _ sourced.change c.changes.invariant.come_to more in
    record {
      max = c.in-Ok.ensures.max ∙ c.changes.invariant.max;
      few = omega (arith, one, c.changes.invariant.few);
      come_to =
          more
          ∙ ap (λ ms. members (ms ++ sourced.change ∷ [])) c.changes.invariant.come_to
          ∙ members-more c.args.changes.now c.changes.sourced-index sourced (omega arith) c.sourced-item.is;
    }

pub returns-clause-members : goal.returns-clause-members
returns-clause-members c =
    let all = c.args.changes.now in
    let whole : take c.changes.sourced-index all ≡ all = take_all c.changes.sourced-index all (omega (arith, c.changes-test.false)) in
    c.changes.invariant.come_to ∙ ap (λ cs. members (map change_of cs)) whole
