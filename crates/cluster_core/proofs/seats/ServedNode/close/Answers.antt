use Rattle.std.proofs.Common.{arith, subst}
use Rattle.std.proofs.lemmas.Grind.{common_steps}
use Rattle.std.specs.Arc.{arc_value}
use Rattle.cluster_core.specs.Clusters.{IsOfSeat, SeatState}
use Rattle.cluster_core.proofs.Crews.{closed_with, handed_in, never_refused}
use Rattle.cluster_core.proofs.seats.ServedNode.close.Goals as goal

pub close-requires : goal.close-requires
close-requires g c =
    (handed_in g.H.PointHash.hash_of _ _ c.in-Some.locked c.in-Ok.passes.items c.push.new.self.items _ c.self.invariant c.self.inside.workers.ok.0 (omega (arith, c.in-Ok.ensures.len, c.in-Ok.passes.ok.0))
    c.in-Ok.ensures.each (λ w p kept. kept) c.in-Some.ensures (grind (arith, common_steps))).1

pub unreachable-requires : goal.unreachable-requires
unreachable-requires g c =
    never_refused c.in-Some.locked c.push.new.self.items c.in_default-close.field-0.cause
    (handed_in g.H.PointHash.hash_of _ _ c.in-Some.locked c.in-Ok.passes.items c.push.new.self.items _ c.self.invariant c.self.inside.workers.ok.0 (omega (arith, c.in-Ok.ensures.len, c.in-Ok.passes.ok.0))
    c.in-Ok.ensures.each (λ w p kept. kept) c.in-Some.ensures (grind (arith, common_steps))).2
    c.in_default-close.ensures.cause

pub returns : goal.returns
returns g c =
    let seat : SeatState _ = record {
      address = c.self.inside.address;
      node = arc_value c.self.inside.node;
      pass = c.self.inside.pass;
      link = c.self.inside.link;
      workers = c.self.inside.workers.items;
    } in
    let back = handed_in g.H.PointHash.hash_of _ seat c.in-Some.locked c.in-Ok.passes.items c.push.new.self.items _ c.self.invariant c.self.inside.workers.ok.0
    (omega (arith, c.in-Ok.ensures.len, c.in-Ok.passes.ok.0)) c.in-Ok.ensures.each (λ w p kept. kept) c.in-Some.ensures (grind (arith, common_steps)) in
    subst (λ s. IsOfSeat g.H.PointHash.hash_of s c.in-Ok-close.node) c.self.view_is
    (closed_with g.H.PointHash.hash_of seat c.in-Some.locked c.in-Ok.passes.items c.push.new.self.items c.in-Ok-close.node c.in-Some.ensures (grind (arith, common_steps))
    back.0 back.2 c.in-Ok-close.ensures.closed)
