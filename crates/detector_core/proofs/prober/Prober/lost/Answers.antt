use Rattle.detector_core.proofs.Waiting.{probed-asked}
use Rattle.detector_core.proofs.prober.Prober.lost.Goals as goal

pub invariant_of-self-2 : goal.invariant_of-self-2
invariant_of-self-2 c = probed-asked _ c.self.invariant c.in-Some.target c.deref.result.now c.choose.new.rng c.in_ok-asked.asked.items c.in_ok-asked.ensures
