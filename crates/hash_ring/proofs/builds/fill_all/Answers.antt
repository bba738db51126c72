use Rattle.std.proofs.Common.{ap, sym, ◌∙◌, subst, arith}
use Rattle.std.specs.List.{flat_map}
use Rattle.std.proofs.lemmas.List.{take_all}
use Rattle.std.proofs.lemmas.List.Filters.{dedup_is}
use Rattle.change_core.specs.Ascending.{ascending, In}
use Rattle.change_core.proofs.Order.{in_ascending}
use Rattle.hash_ring.specs.declared.servers.Server.{Server}
use Rattle.hash_ring.specs.Points.{point_cmp, points_by, AreSmall}
use Rattle.hash_ring.proofs.PointOrder.{point_exact, point_ties}
use Rattle.hash_ring.proofs.FreshPoints.{ascending-sorted}
use Rattle.hash_ring.proofs.InTurn.{points_more}
use Rattle.hash_ring.proofs.builds.fill_all.Goals as goal

pub returns-clause-made : goal.returns-clause-made
returns-clause-made g c =
    ascending-sorted point_exact _ point_ties _ _ _ c.sort_unstable.ensures.permutation c.sort_unstable.ensures.sorted (dedup_is _ _ _ c.dedup.ensures.filtered)
    ∙ ap (ascending point_cmp) (c.loop-server.invariant.pushed ∙ ap (flat_map (points_by (g.H.PointHash.hash_of c.args.hash) c.args.replicas)) (take_all c.loop-server.server-index c.args.servers.now (omega (arith, c.loop-server-test.false))))

pub returns-clause-small : goal.returns-clause-small
returns-clause-small g c =
    let sorted = ascending-sorted point_exact _ point_ties _ _ _ c.sort_unstable.ensures.permutation c.sort_unstable.ensures.sorted (dedup_is _ _ _ c.dedup.ensures.filtered) in
    λ p h. c.loop-server.invariant.small p (in_ascending point_exact p c.loop-server.list.items (subst (In p) sorted h))

pub loop-server-preserved : goal.loop-server-preserved
loop-server-preserved g c =
    let at = c.loop-server.server-index in
    let server : Server = c.server-item.result in
    let low = c.loop-server-test.true in
    record {
      pushed = points_more (g.H.PointHash.hash_of c.args.hash) c.args.replicas c.point_count-count.result c.args.servers.now at server _ _ low c.server-item.is c.point_count-count.ensures.value (c.reserve.ensures.items ∙ c.loop-server.invariant.pushed) c.push_points.ensures.pushed;
      small = c.push_points.ensures.small (subst AreSmall (sym c.reserve.ensures.items) c.loop-server.invariant.small);
    }
