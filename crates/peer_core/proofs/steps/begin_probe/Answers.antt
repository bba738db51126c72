use Rattle.peer_core.proofs.Named.{named_try, probe_names}
use Rattle.peer_core.proofs.Parts.{does_as, does_try}
use Rattle.peer_core.proofs.steps.begin_probe.Goals as goal

pub returns-clause-did : goal.returns-clause-did
returns-clause-did g c = does_as c.allowed.ensures (does_try _ _ _ c.probe-answer.result c.probe-answer.ensures.called c.probe-answer.ensures.refused)

pub returns-clause-named : goal.returns-clause-named
returns-clause-named g c =
    named_try _ _ _ _ _ _ c.probe-answer.result c.allowed.result (λ old new n h. probe_names old new n h) c.probe-answer.ensures.called c.allowed.ensures
