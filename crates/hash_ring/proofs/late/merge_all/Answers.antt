use Rattle.std.proofs.Common.{sym, ap, ◌∙◌, ◌++◌, length}
use Rattle.std.proofs.lemmas.Bool.{eqb-true}
use Rattle.std.proofs.lemmas.List.Filters.{dedup_is}
use Rattle.change_core.specs.Ascending.{ascending}
use Rattle.hash_ring.specs.Points.{point_cmp}
use Rattle.hash_ring.proofs.PointOrder.{point_exact, point_ties}
use Rattle.hash_ring.proofs.FreshPoints.{ascending-sorted}
use Rattle.hash_ring.proofs.Merge.{nothing_more}
use Rattle.hash_ring.proofs.late.merge_all.Goals as goal

pub returns-then-is_empty : goal.returns-then-is_empty
returns-then-is_empty c = record {
  merged = c.in_ok-extend_from_slice.ensures.items ∙ ap (λ ps. ps ++ c.args.points.now) c.requires.none
      ∙ nothing_more point_exact c.args.points.now c.args.late.now c.requires.ascends (sym (eqb-true (length c.args.late.now) 0 (sym c.if-is_empty.ensures)));
}

pub returns : goal.returns
returns c =
    let filled = c.in_ok-extend_from_slice.ensures.items ∙ ap (λ ps. ps ++ c.args.points.now) c.requires.none in
    record {
      merged = ascending-sorted point_exact _ point_ties _ _ _ c.sort_unstable.ensures.permutation c.sort_unstable.ensures.sorted (dedup_is _ _ _ c.dedup.ensures.filtered)
          ∙ ap (ascending point_cmp) (c.in_ok-extend_from_slice-2.ensures.items ∙ ap (λ ps. ps ++ c.args.late.now) filled);
    }
