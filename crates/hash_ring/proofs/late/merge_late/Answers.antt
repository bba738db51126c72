use Rattle.std.proofs.Common.{sym, ap, ◌∙◌, subst, arith, length, vec_len}
use Rattle.std.proofs.lemmas.Bool.{eqb-true}
use Rattle.std.proofs.lemmas.List.Filters.{dedup_is}
use Rattle.change_core.specs.Ascending.{In, IsAscending}
use Rattle.change_core.proofs.Order.{ascending_ascends, in_ascending}
use Rattle.hash_ring.specs.Points.{point_cmp}
use Rattle.hash_ring.proofs.PointOrder.{point_exact, point_ties}
use Rattle.hash_ring.proofs.FreshPoints.{ascending-sorted}
use Rattle.hash_ring.proofs.Merge.{merge_sorted, nothing_more}
use Rattle.hash_ring.proofs.late.merge_late.Goals as goal

pub returns-then-is_empty-clause-merged : goal.returns-then-is_empty-clause-merged
returns-then-is_empty-clause-merged c = nothing_more point_exact c.args.points.now.items c.args.late.now.items c.requires.ascends (omega (arith, eqb-true (vec_len c.args.late.now) 0 (sym c.if-is_empty.ensures), c.args.late.now.ok.0))

pub merge_points-requires-clause-fresh_ascends : goal.merge_points-requires-clause-fresh_ascends
merge_points-requires-clause-fresh_ascends c =
    let sorted = ascending-sorted point_exact _ point_ties _ _ _ c.sort_unstable.ensures.permutation c.sort_unstable.ensures.sorted (dedup_is _ _ _ c.dedup.ensures.filtered) in
    subst (IsAscending point_cmp) (sym (c.deref.ensures.value ∙ sorted)) (ascending_ascends point_exact c.args.late.now.items)

pub merge_points-requires-clause-apart : goal.merge_points-requires-clause-apart
merge_points-requires-clause-apart c =
    let sorted = ascending-sorted point_exact _ point_ties _ _ _ c.sort_unstable.ensures.permutation c.sort_unstable.ensures.sorted (dedup_is _ _ _ c.dedup.ensures.filtered) in
    λ p h k. c.requires.apart p h (in_ascending point_exact p c.args.late.now.items (subst (In p) (c.deref.ensures.value ∙ sorted) k))

pub merge_points-requires-clause-room : goal.merge_points-requires-clause-room
merge_points-requires-clause-room c =
    let sorted = ascending-sorted point_exact _ point_ties _ _ _ c.sort_unstable.ensures.permutation c.sort_unstable.ensures.sorted (dedup_is _ _ _ c.dedup.ensures.filtered) in
    omega (arith, c.requires.room, ap length (c.deref.ensures.value ∙ sorted), c.args.points.now.ok.0)

pub returns-clause-merged : goal.returns-clause-merged
returns-clause-merged c =
    let sorted = ascending-sorted point_exact _ point_ties _ _ _ c.sort_unstable.ensures.permutation c.sort_unstable.ensures.sorted (dedup_is _ _ _ c.dedup.ensures.filtered) in
    c.merge_points.ensures.merged ∙ merge_sorted point_exact c.args.points.now.items c.args.late.now.items c.deref.result.now (c.deref.ensures.value ∙ sorted)
