use Rattle.std.proofs.Common.{rules, sym}
use Rattle.detector_core.specs.Helpers.{noted}
use Rattle.detector_core.proofs.HelperLemmas.{written_back}
use Rattle.detector_core.proofs.Waiting.{probed-noted}
use Rattle.detector_core.proofs.prober.Prober.helper_said.Goals as goal

pub invariant_of-self-in-Some : goal.invariant_of-self-in-Some
invariant_of-self-in-Some c =
    probed-noted _ c.self.invariant c.args.number c.args.helper c.args.said (record { target = c.in-Some.probe.target; asked = c.in-Some.probe.asked.items }) _ (search rules) (search rules)
    (written_back (noted c.args.helper c.args.said) c.in-Some.probe.asked.items c.as_mut_slice.result.now c.note.new.asked c.in-Some.probe.asked.len c.as_mut_slice.ensures.value c.note.ensures (sym c.in-Some.probe.asked.ok.0))
