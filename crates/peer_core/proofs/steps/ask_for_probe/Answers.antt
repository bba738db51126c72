use Rattle.peer_core.proofs.Named.{named_answer, named_call, probe_names}
use Rattle.peer_core.proofs.Parts.{does_as, does_call}
use Rattle.peer_core.proofs.steps.ask_for_probe.Goals as goal

pub returns-clause-did : goal.returns-clause-did
returns-clause-did g c = does_as c.let_in.ensures (does_call _ _ _ c.probe-answer.result c.probe-answer.ensures.called c.probe-answer.ensures.refused)

pub returns-clause-named : goal.returns-clause-named
returns-clause-named g c = named_call c.probe-answer.result c.let_in.result c.let_in.ensures

pub returns-clause-answered : goal.returns-clause-answered
returns-clause-answered g c =
    named_answer _ _ _ _ _ _ c.probe-answer.result c.let_in.result (λ old new n h. probe_names old new n h) c.probe-answer.ensures.called c.let_in.ensures
