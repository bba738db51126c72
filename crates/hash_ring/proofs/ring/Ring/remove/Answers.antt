use Rattle.std.proofs.Common.{◌++◌, sym, ◌∙◌, subst, arith}
use Rattle.change_core.specs.Ascending.{ascending}
use Rattle.hash_ring.specs.Points.{point_cmp}
use Rattle.hash_ring.specs.Servers.{weight_of, without}
use Rattle.hash_ring.specs.Steps.{IsTaken}
use Rattle.hash_ring.proofs.Kept.{kept_is, kept_same, kept_taken, room_kept, taken_fewer}
use Rattle.hash_ring.proofs.Weights.{none_if_not_some, without_none}
use Rattle.hash_ring.proofs.Rooms.{fewer_servers}
use Rattle.hash_ring.proofs.ring.Ring.remove.Goals as goal

pub invariant_of-self : goal.invariant_of-self
invariant_of-self g c =
    let e = c.take_out.ensures in
    kept_taken _ _ _ _ _ c.self.invariant c.args.address c.take_out.result _ _ _ _ _ e.servers e.there e.points e.late_capacity e.points_capacity

pub returns-clause-ring : goal.returns-clause-ring
returns-clause-ring g c =
    let n = c.take_out.new.self in
    rw (← c.self.view_is)
    (kept_is c.self.inside.hash (g.H.PointHash.hash_of c.self.inside.hash) c.self.inside.replicas n.servers n.points n.late (without c.args.address c.self.inside.lists.servers.items) (invariant_of-self g c) c.take_out.ensures.servers)

pub returns-clause-room : goal.returns-clause-room
returns-clause-room g c =
    let i = c.self.inside in
    let n = c.take_out.new.self in
    let e = c.take_out.ensures in
    let fewer = taken_fewer _ _ _ _ _ c.self.invariant c.args.address c.take_out.result _ _ e.points in
    rw (← c.self.view_is)
    (room_kept i.hash i.replicas i.lists.servers n.servers i.lists.points n.points i.lists.late n.late
    (fewer_servers c.args.address i.lists.servers.items n.servers.items e.servers) (omega (arith, e.servers_capacity)) fewer.0 e.points_capacity fewer.1 e.late_capacity)

pub returns-clause-unchanged : goal.returns-clause-unchanged
returns-clause-unchanged g c absent =
    let i = c.self.inside in
    let n = c.take_out.new.self in
    let e = c.take_out.ensures in
    let a = c.args.address in
    let same = e.servers ∙ without_none a i.lists.servers.items (none_if_not_some (weight_of a i.lists.servers.items) (sym e.there ∙ absent)) in
    let taken = subst (λ b. IsTaken a i.lists.points.items i.lists.late.items b n.points.items n.late.items) absent e.points in
    rw (← c.self.view_is)
    (kept_same i.hash i.replicas i.lists.servers n.servers i.lists.points n.points i.lists.late n.late same (λ j. ascending point_cmp (taken.0 j ++ taken.1 j)))
