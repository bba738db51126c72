use Rattle.std.proofs.Common.{rules, Some}
use Rattle.detector_core.proofs.Waiting.{unasked_waits}
use Rattle.detector_core.proofs.prober.Prober.running.Goals as goal

pub returns-clause-unasked : goal.returns-clause-unasked
returns-clause-unasked c =
    unasked_waits c.args.self.now (search rules) (Some (record { number = c.self.inside.last; target = c.in_ok-probe.probe.now.target; waiting = c.first_waiting.result })) (search rules)
