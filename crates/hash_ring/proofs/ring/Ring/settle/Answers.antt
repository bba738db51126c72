use Rattle.std.proofs.Common.{refl, sym, ◌∙◌, arith}
use Rattle.hash_ring.proofs.Kept.{kept_merged, kept_same, merged_fewer, room_kept}
use Rattle.hash_ring.proofs.ring.Ring.settle.Goals as goal

pub invariant_of-self : goal.invariant_of-self
invariant_of-self g c =
    let e = c.merge_late.ensures in
    kept_merged _ _ _ _ _ c.self.invariant _ _ _ _ e.merged e.none e.late_capacity e.capacity

pub returns-clause-same : goal.returns-clause-same
returns-clause-same g c =
    let i = c.self.inside in
    let n = c.merge_late.new in
    rw (← c.self.view_is)
    (kept_same i.hash i.replicas i.lists.servers i.lists.servers i.lists.points n.points i.lists.late n.late refl ((invariant_of-self g c).ring.points_are ∙ sym c.self.invariant.ring.points_are))

pub returns-clause-room : goal.returns-clause-room
returns-clause-room g c =
    let i = c.self.inside in
    let n = c.merge_late.new in
    let e = c.merge_late.ensures in
    let fewer = merged_fewer _ _ _ _ _ c.self.invariant n.points.items n.late.items e.merged e.none in
    rw (← c.self.view_is)
    (room_kept i.hash i.replicas i.lists.servers i.lists.servers i.lists.points n.points i.lists.late n.late (omega arith) (omega arith) fewer.0 e.capacity fewer.1 e.late_capacity)
