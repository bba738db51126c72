use Rattle.std.proofs.Common.{◌≡◌, ◌∙◌, suc, [], ap, arith, length, sym}
use Rattle.std.proofs.lemmas.Grind.{common_steps}
use Rattle.std.specs.Vec.Iter.{into_iter_items}
use Rattle.cluster_core.specs.Clusters.{IsOfSeat}
use Rattle.cluster_core.proofs.Crews.{closed_all, closes}
use Rattle.cluster_core.proofs.clusters.end_all.Goals as goal

pub closed-init : goal.closed-init
closed-init g c = record {
  length_is = c.into_iter-seat-iterator.ensures.into_iter_gives.1 ∙ c.args.seats.ok.0 ∙ sym (ap length c.into_iter-seat-iterator.ensures.into_iter_gives.0);
  so_far = ([], sym c.into_iter-seat-iterator.ensures.into_iter_gives.0, grind (arith, common_steps));
}

pub closed-preserved : goal.closed-preserved
closed-preserved g c = record {
  length_is = (let cut : length (into_iter_items c.closed.seat-iterator) ≡ suc (length (into_iter_items c.next.new.self)) = ap length c.in-Some.ensures.steps.0 in omega (arith, c.in-Some.ensures.steps.1));
  so_far = closes (IsOfSeat g.H.PointHash.hash_of) c.in-Some.seat c.in_ok-node.node c.args.seats.items (into_iter_items c.next.new.self) (into_iter_items c.closed.seat-iterator)
      c.closed.nodes.items _ c.in-Some.ensures.steps.0 c.in_ok-append.ensures.put c.in_ok-node.ensures c.closed.invariant.so_far;
}

pub returns-clause-closed : goal.returns-clause-closed
returns-clause-closed g c =
    closed_all (IsOfSeat g.H.PointHash.hash_of) c.args.seats.items (into_iter_items c.closed.seat-iterator) c.closed.nodes.items
    (sym c.closed.invariant.length_is ∙ c.in-None.ensures.steps.0) c.closed.invariant.so_far
