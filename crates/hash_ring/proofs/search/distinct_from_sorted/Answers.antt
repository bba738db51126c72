use Rattle.std.proofs.Common.{◌<◌, vec_len, vec_capacity, ap, ◌∙◌, subst, length, length-append, arith}
use Rattle.std.specs.Bool.{MatchBool}
use Rattle.change_core.specs.declared.addresses.Address.{Address}
use Rattle.change_core.specs.Ascending.{In}
use Rattle.change_core.proofs.Ascends.{address_exact}
use Rattle.hash_ring.proofs.Named.{named_more_old, named_more_new, IsSorted-put, IsSorted-there, has_sorted, has_unsorted}
use Rattle.hash_ring.proofs.search.distinct_from_sorted.Goals as goal
use Rattle.hash_ring.proofs.search.distinct_from_sorted.Goals.{then-added, else-added}

pub place-requires-clause-exact : goal.place-requires-clause-exact
place-requires-clause-exact c = address_exact

pub place-requires-clause-ascends : goal.place-requires-clause-ascends
place-requires-clause-ascends c = c.loop-point.invariant.sorted.ascends

pub unreachable-requires : goal.unreachable-requires
unreachable-requires c =
    let low : vec_len c.loop-point.sorted < vec_capacity c.loop-point.sorted = omega (arith, c.loop-point.sorted.ok.0, c.loop-point.named.ok.0, c.loop-point.invariant.sorted.fits, c.loop-point.invariant.sorted_capacity, c.requires.sorted_room) in
    cc (c.in_default.ensures.room low)

pub loop-point-preserved : goal.loop-point-preserved
loop-point-preserved c =
    let at = c.loop-point.point-index in
    let before = c.loop-point.named.items in
    let held = c.loop-point.sorted.items in
    let is = c.loop-point.invariant.sorted in
    let point = c.point-item.result in
    let found = c.in-Ok.ensures.added in
    let low : vec_len c.loop-point.sorted < vec_capacity c.loop-point.sorted = omega (arith, c.loop-point.sorted.ok.0, c.loop-point.named.ok.0, is.fits, c.loop-point.invariant.sorted_capacity, c.requires.sorted_room) in
    let room = c.place.ensures.same_capacity low ∙ c.loop-point.invariant.sorted_capacity in
    elim c.if-added.branch [
      | then-added w ↦
          let named = ap (λ (v : _). v.items) w.named-is ∙ w.push_reserved.ensures.items in
          let new = has_unsorted before held point.server is (subst (λ b. MatchBool b (¬ In point.server held) (In point.server held)) w.if-added.true found) in
          record {
            named = named_more_new c.args.count before _ c.args.points.now at point c.point-item.is c.loop-point-test.true new named ∙ c.loop-point.invariant.named;
            len = omega (arith, ap length named, length-append {A = Address});
            capacity = ap vec_capacity w.named-is ∙ w.push_reserved.ensures.capacity ∙ c.loop-point.invariant.capacity;
            sorted = IsSorted-put point.server before _ held _ is named c.in-Ok.ensures.placed;
            sorted_capacity = room;
          }
      | else-added w ↦
          let named = ap (λ (v : _). v.items) w.named-is in
          let there = subst (λ b. MatchBool b (¬ In point.server held) (In point.server held)) w.if-added.false found in
          record {
            named = named_more_old c.args.count before _ c.args.points.now at point c.point-item.is c.loop-point-test.true (has_sorted before held point.server is there) named ∙ c.loop-point.invariant.named;
            len = omega (arith, ap length named);
            capacity = ap vec_capacity w.named-is ∙ c.loop-point.invariant.capacity;
            sorted = IsSorted-there point.server before _ held _ is there named c.in-Ok.ensures.placed;
            sorted_capacity = room;
          }
    ]
