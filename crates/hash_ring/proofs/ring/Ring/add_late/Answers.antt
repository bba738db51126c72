use Rattle.std.proofs.Common.{◌≡◌, ◌*◌, ◌++◌, ◌<◌, length, vec_len, vec_capacity, ap, sym, ◌∙◌, subst, arith, Some, false, not, rules}
use Rattle.change_core.specs.Ascending.{put, ascending, In}
use Rattle.hash_ring.specs.declared.servers.Server.{Server}
use Rattle.hash_ring.specs.Points.{point_cmp, points_of}
use Rattle.hash_ring.specs.Servers.{has_weight, server_cmp, weight_of, with_server}
use Rattle.hash_ring.specs.RingModel.{HasRoom}
use Rattle.hash_ring.proofs.Kept.{kept_added, kept_is, kept_more, kept_taken, rooms, small_late}
use Rattle.hash_ring.proofs.PointOrder.{server_exact}
use Rattle.hash_ring.proofs.Rings.{absent_after}
use Rattle.hash_ring.proofs.Weights.{in_if_weight, weight_if_had, positive_factor, with_server_there}
use Rattle.hash_ring.proofs.ring.Ring.add_late.Goals as goal

pub returns-then-eq-clause-ring : goal.returns-then-eq-clause-ring
returns-then-eq-clause-ring g c =
    let i = c.self.inside in
    let server : Server = record { address = c.args.address; weight = c.args.weight } in
    let answer : false ≡ not (has_weight c.args.weight (weight_of c.args.address c.args.self.now.servers)) = search rules in
    let held = subst (λ (r : _). weight_of c.args.address r.servers ≡ Some c.args.weight) (sym c.self.view_is) (weight_if_had c.args.weight (weight_of c.args.address c.args.self.now.servers) answer) in
    let there : In server i.lists.servers.items = in_if_weight i.lists.servers.items server held in
    let are = c.self.invariant.ring.servers_fit in
    let same = sym (with_server_there server i.lists.servers.items are.ascends are.once there) in
    rw (← c.self.view_is)
    (kept_is i.hash (g.H.PointHash.hash_of i.hash) i.replicas i.lists.servers i.lists.points i.lists.late (with_server server i.lists.servers.items) c.self.invariant same)

pub place-requires-clause-exact : goal.place-requires-clause-exact
place-requires-clause-exact g c = server_exact

pub place-requires-clause-ascends : goal.place-requires-clause-ascends
place-requires-clause-ascends g c =
    let e = c.take_out.ensures in
    let others = kept_taken _ _ _ _ _ c.self.invariant c.args.address c.take_out.result _ _ _ _ _ e.servers e.there e.points e.late_capacity e.points_capacity in
    others.ring.servers_fit.ascends

pub unreachable-requires : goal.unreachable-requires
unreachable-requires g c =
    let i = c.self.inside in
    let n = c.take_out.new.self in
    let e = c.take_out.ensures in
    let hash_of = g.H.PointHash.hash_of i.hash in
    let server : Server = record { address = c.args.address; weight = c.args.weight } in
    let some : 0 < i.replicas * c.args.weight = omega (arith, c.point_count-count.ensures.value, c.point_count-count.ensures.range.0) in
    let made = rooms i.hash hash_of i.replicas i.lists.servers i.lists.points i.lists.late server c.take_out.result n.points.items n.late.items c.self.invariant some e.there e.points (subst (λ (r : _). HasRoom r server) (sym c.self.view_is) c.requires) in
    let low : vec_len n.servers < vec_capacity n.servers = omega (arith, made.0, n.servers.ok.0, ap length e.servers, e.servers_capacity) in
    cc (c.in_default.ensures.room low)

pub push_points-requires-clause-room : goal.push_points-requires-clause-room
push_points-requires-clause-room g c =
    let i = c.self.inside in
    let n = c.take_out.new.self in
    let e = c.take_out.ensures in
    let hash_of = g.H.PointHash.hash_of i.hash in
    let server : Server = record { address = c.args.address; weight = c.args.weight } in
    let some : 0 < i.replicas * c.args.weight = omega (arith, c.point_count-count.ensures.value, c.point_count-count.ensures.range.0) in
    let made = rooms i.hash hash_of i.replicas i.lists.servers i.lists.points i.lists.late server c.take_out.result n.points.items n.late.items c.self.invariant some e.there e.points (subst (λ (r : _). HasRoom r server) (sym c.self.view_is) c.requires) in
    omega (arith, made.1, c.point_count-count.ensures.value, e.late_capacity, n.late.ok.0)

pub invariant_of-self : goal.invariant_of-self
invariant_of-self g c =
    let i = c.self.inside in
    let n = c.take_out.new.self in
    let e = c.take_out.ensures in
    let hash_of = g.H.PointHash.hash_of i.hash in
    let server : Server = record { address = c.args.address; weight = c.args.weight } in
    let some : 0 < i.replicas * c.args.weight = omega (arith, c.point_count-count.ensures.value, c.point_count-count.ensures.range.0) in
    let made = rooms i.hash hash_of i.replicas i.lists.servers i.lists.points i.lists.late server c.take_out.result n.points.items n.late.items c.self.invariant some e.there e.points (subst (λ (r : _). HasRoom r server) (sym c.self.view_is) c.requires) in
    let others = kept_taken _ _ _ _ _ c.self.invariant c.args.address c.take_out.result _ _ _ _ _ e.servers e.there e.points e.late_capacity e.points_capacity in
    let pushed : c.push_points.new.points.items ≡ n.late.items ++ points_of hash_of (i.replicas * c.args.weight) c.args.address =
    c.push_points.ensures.pushed ∙ ap (λ k. n.late.items ++ points_of hash_of k c.args.address) c.point_count-count.ensures.value
    in
    kept_more hash_of i.replicas c.place.new.items.items n.points.items c.push_points.new.points.items (vec_capacity n.late) (vec_capacity c.push_points.new.points) (vec_capacity n.points) (vec_capacity n.points)
    (kept_added hash_of i.replicas n.servers.items n.points.items n.late.items others server c.place.new.items.items c.push_points.new.points.items
    (absent_after _ _ _ _ c.self.invariant.ring c.args.address n.servers.items e.servers) (positive_factor i.replicas c.args.weight some) c.in-Ok.ensures.placed pushed
    (c.push_points.ensures.small (small_late _ _ _ _ _ others)) (omega (arith, made.2, e.late_capacity))
    (omega (arith, made.3, ap (λ ls. length (ascending point_cmp ls)) pushed, e.points_capacity)))
    c.push_points.ensures.capacity (omega arith)

pub returns-clause-ring : goal.returns-clause-ring
returns-clause-ring g c =
    let i = c.self.inside in
    let server : Server = record { address = c.args.address; weight = c.args.weight } in
    rw (← c.self.view_is)
    (kept_is i.hash (g.H.PointHash.hash_of i.hash) i.replicas c.place.new.items c.take_out.new.self.points c.push_points.new.points (with_server server i.lists.servers.items) (invariant_of-self g c)
    (c.in-Ok.ensures.placed ∙ ap (put server_cmp server) c.take_out.ensures.servers))
