use Rattle.std.proofs.Common.{◌≡◌, sym, subst, ◌++◌}
use Rattle.change_core.specs.Ascending.{In, IsAscending}
use Rattle.change_core.proofs.Order.{in_ascending, ascending_in}
use Rattle.hash_ring.specs.Points.{point_cmp, AreSmall}
use Rattle.hash_ring.proofs.Kept.{small_points}
use Rattle.hash_ring.proofs.Nearest.{owner_nearest, owner_nobody}
use Rattle.hash_ring.proofs.Next.{next_is}
use Rattle.hash_ring.proofs.PointOrder.{point_exact}
use Rattle.hash_ring.proofs.ring.Ring.owner.Goals as goal

pub next_server-requires-clause-ascends : goal.next_server-requires-clause-ascends
next_server-requires-clause-ascends g c = subst (IsAscending point_cmp) (sym c.deref.ensures.value) c.self.invariant.ascends

pub next_server-requires-clause-small : goal.next_server-requires-clause-small
next_server-requires-clause-small g c = subst AreSmall (sym c.deref.ensures.value) (small_points _ _ _ _ _ c.self.invariant)

pub returns-clause-first : goal.returns-clause-first
returns-clause-first g c =
    let i = c.self.inside in
    let both = i.lists.points.items ++ i.lists.late.items in
    let same : c.deref.result.now ++ c.deref-2.result.now ≡ both = λ j. c.deref.ensures.value j ++ c.deref-2.ensures.value j in
    rw (← c.self.view_is)
    (next_is (g.H.PointHash.hash_of i.hash) i.replicas i.lists.servers.items _ _ c.args.key.now c.self.invariant.ring c.next_server.result c.hash.result c.next_server.ensures.next c.next_server.ensures.empty c.hash.ensures
    (λ q h. ascending_in point_exact q both (subst (In q) same h))
    (λ q h. subst (In q) (sym same) (in_ascending point_exact q both h)))

pub returns-clause-nearest : goal.returns-clause-nearest
returns-clause-nearest g c = owner_nearest (g.H.PointHash.hash_of c.args.self.now.hash) c.args.self.now.replicas c.args.self.now.servers c.args.key.now c.next_server.result (returns-clause-first g c)

pub returns-clause-empty : goal.returns-clause-empty
returns-clause-empty g c = owner_nobody (g.H.PointHash.hash_of c.args.self.now.hash) c.args.self.now.replicas c.args.self.now.servers c.args.key.now c.next_server.result (returns-clause-first g c)
