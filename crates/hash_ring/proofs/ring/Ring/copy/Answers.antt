use Rattle.std.proofs.Common.{◌∙◌, ◌++◌, vec_capacity, subst, sym, arith, List, ap}
use Rattle.change_core.specs.Ascending.{ascending}
use Rattle.hash_ring.specs.Points.{point_cmp, points}
use Rattle.hash_ring.specs.RingModel.{IsRing}
use Rattle.hash_ring.specs.declared.servers.Server.{Server}
use Rattle.hash_ring.proofs.Kept.{kept_same, kept_settled}
use Rattle.hash_ring.proofs.Rings.{ring_fits}
use Rattle.hash_ring.proofs.ring.Ring.copy.Goals as goal

pub invariant_of-result : goal.invariant_of-result
invariant_of-result g c =
    let i = c.self.inside in
    let n = c.fill_as.new.self in
    let e = c.in_ok-fill_as.ensures in
    let hash_of = g.H.PointHash.hash_of i.hash in
    let all = ascending point_cmp (i.lists.points.items ++ i.lists.late.items) in
    let ring = ring_fits hash_of i.replicas i.lists.servers.items all (vec_capacity i.lists.late) (vec_capacity n.late) c.self.invariant.ring e.fits in
    kept_settled hash_of i.replicas n.servers.items all n.points.items n.late.items (vec_capacity n.late) (vec_capacity n.points)
    (subst (λ (ss : List Server). IsRing hash_of i.replicas ss all (vec_capacity n.late)) (sym e.servers) ring)
    e.points e.none_late (omega (arith, n.points.ok.0, n.points.ok.1))

pub returns-clause-same : goal.returns-clause-same
returns-clause-same g c =
    let i = c.self.inside in
    let n = c.fill_as.new.self in
    let e = c.in_ok-fill_as.ensures in
    let kept = invariant_of-result g c in
    rw (← c.self.view_is)
    (kept_same i.hash i.replicas i.lists.servers n.servers i.lists.points n.points i.lists.late n.late e.servers
    (kept.ring.points_are ∙ (ap (points (g.H.PointHash.hash_of i.hash) i.replicas) e.servers ∙ sym c.self.invariant.ring.points_are)))
