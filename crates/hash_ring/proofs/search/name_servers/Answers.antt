use Rattle.std.proofs.Common.{◌≡◌, List, length, ap, sym, ◌∙◌, arith, length-append, vec_capacity}
use Rattle.change_core.specs.declared.addresses.Address.{Address}
use Rattle.hash_ring.specs.Steps.{has}
use Rattle.hash_ring.proofs.Named.{named_more_old, named_more_new}
use Rattle.hash_ring.proofs.search.name_servers.Goals as goal
use Rattle.hash_ring.proofs.search.name_servers.Goals.{then-not-contains, else-not-contains}

pub loop-point-preserved : goal.loop-point-preserved
loop-point-preserved c =
    let at = c.loop-point.point-index in
    let before = c.loop-point.named.items in
    let point = c.point-item.result in
    let tested : has before point.server ≡ c.contains.result =
    ap (λ (ns : List Address). has ns point.server) (sym c.deref.ensures.value) ∙ sym c.contains.ensures.value
    in
    elim c.if-not-contains.branch [
      | then-not-contains w ↦
          let named = ap (λ (v : _). v.items) w.named-is ∙ w.push_reserved.ensures.items in
          record {
            named = named_more_new c.args.count before _ c.args.points.now at point c.point-item.is c.loop-point-test.true (tested ∙ w.if-not-contains.true) named ∙ c.loop-point.invariant.named;
            len = omega (arith, ap length named, length-append {A = Address});
            capacity = ap vec_capacity w.named-is ∙ w.push_reserved.ensures.capacity ∙ c.loop-point.invariant.capacity;
          }
      | else-not-contains w ↦
          let named = ap (λ (v : _). v.items) w.named-is in
          record {
            named = named_more_old c.args.count before _ c.args.points.now at point c.point-item.is c.loop-point-test.true (tested ∙ w.if-not-contains.false) named ∙ c.loop-point.invariant.named;
            len = omega (arith, ap length named);
            capacity = ap vec_capacity w.named-is ∙ c.loop-point.invariant.capacity;
          }
    ]
