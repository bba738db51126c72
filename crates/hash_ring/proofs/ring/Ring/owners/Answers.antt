use Rattle.std.proofs.Common.{◌≡◌, min, length, ap, ◌∙◌, ◌++◌, take, arith}
use Rattle.std.specs.Global.{Vec}
use Rattle.std.proofs.lemmas.Result.{IfOk-weaker}
use Rattle.change_core.specs.declared.addresses.Address.{Address}
use Rattle.change_core.specs.Ascending.{ascending}
use Rattle.hash_ring.specs.Points.{point_cmp, owners}
use Rattle.hash_ring.specs.Steps.{AreMet}
use Rattle.hash_ring.proofs.Named.{ring_owners, owners_enough}
use Rattle.hash_ring.proofs.ring.Ring.owners.Goals as goal

pub returns-clause-named : goal.returns-clause-named
returns-clause-named g c =
    let i = c.self.inside in
    let hash_of = g.H.PointHash.hash_of i.hash in
    let servers = i.lists.servers.items in
    let key = c.args.key.now in
    let from = c.hash-hash.result in
    let count = c.min-count.result in
    let all = ascending point_cmp (i.lists.points.items ++ i.lists.late.items) in
    let listed = ascending point_cmp (c.deref.result.now ++ c.deref-2.result.now) in
    let same : listed ≡ all = λ j. ascending point_cmp (c.deref.ensures.value j ++ c.deref-2.ensures.value j) in
    let fewer : count ≡ min c.args.count (length servers) = omega (arith, c.min-count.ensures, c.len.ensures) in
    rw (← c.self.view_is)
    (IfOk-weaker c.owners_from_both.result (λ (named : Vec Address). AreMet from listed count named.items) (λ (named : Vec Address). named.items ≡ take c.args.count (owners hash_of i.replicas servers key))
    (λ named met.
    let walk = ring_owners hash_of i.replicas servers all listed key met.start from c.self.invariant.ring c.hash-hash.ensures c.hash-hash.type_inv same met.low met.high in
    met.met ∙ ap (take count) walk ∙ owners_enough hash_of i.replicas servers key c.args.count count fewer)
    c.owners_from_both.ensures.met)
