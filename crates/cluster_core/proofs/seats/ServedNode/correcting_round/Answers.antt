use Rattle.std.proofs.Common.{refl, map}
use Rattle.std.specs.Arc.{arc_value}
use Rattle.cluster_core.specs.Clusters.{given_to}
use Rattle.cluster_core.proofs.Crews.{seat_did, still_all}
use Rattle.cluster_core.proofs.seats.ServedNode.correcting_round.Goals as goal

pub invariant_of-self : goal.invariant_of-self
invariant_of-self g c = record {
  fits = rw c.deref.ensures at c.correcting_round.ensures.fits;
  returned = c.self.invariant.returned;
  all = still_all (arc_value c.self.inside.node) (map given_to c.self.inside.workers.items) c.self.inside.pass c.correcting_round.new.pass
      c.correcting_round.ensures.round.makes.made.same c.self.invariant.all;
}

pub returns-clause-made : goal.returns-clause-made
returns-clause-made g c =
    seat_did _ c.self.view_is (record { did = rw c.deref.ensures at c.correcting_round.ensures.round; address = refl; node = refl; workers = refl })
