use Rattle.std.proofs.Common.{◌++◌, length, subst, sym, ◌∙◌}
use Rattle.std.specs.Result.{IfOk}
use Rattle.std.proofs.lemmas.Bool.{eqb-true}
use Rattle.change_core.specs.Ascending.{IsAscending}
use Rattle.change_core.proofs.Order.{ascending_ascends}
use Rattle.hash_ring.specs.Points.{point_cmp}
use Rattle.hash_ring.specs.Steps.{AreMet}
use Rattle.hash_ring.proofs.Merge.{nothing_more}
use Rattle.hash_ring.proofs.PointOrder.{point_exact}
use Rattle.hash_ring.proofs.search.owners_from_both.Goals as goal

pub returns-then-is_empty-clause-met : goal.returns-then-is_empty-clause-met
returns-then-is_empty-clause-met c =
    let same = nothing_more point_exact c.args.points.now c.args.late.now c.requires.ascends (sym (eqb-true (length c.args.late.now) 0 (sym c.if-is_empty.ensures))) in
    subst (λ ps. IfOk c.owners_from.result (λ named. AreMet c.args.hash ps c.args.count named.items)) same c.owners_from.ensures.met

pub owners_from-requires-2 : goal.owners_from-requires-2
owners_from-requires-2 c =
    let same = c.deref.ensures.value ∙ c.in_ok-merge_all.ensures.merged in
    record { ascends = subst (IsAscending point_cmp) (sym same) (ascending_ascends point_exact (c.args.points.now ++ c.args.late.now)) }
