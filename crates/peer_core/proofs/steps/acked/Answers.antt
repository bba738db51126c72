use Rattle.peer_core.proofs.Named.{acked_names, named_try}
use Rattle.peer_core.proofs.Parts.{does_as, does_try}
use Rattle.peer_core.proofs.steps.acked.Goals as goal

pub returns-clause-did : goal.returns-clause-did
returns-clause-did g c = does_as c.allowed.ensures (does_try _ _ _ c.acked-answer.result c.acked-answer.ensures.called c.acked-answer.ensures.refused)

pub returns-clause-named : goal.returns-clause-named
returns-clause-named g c =
    named_try _ _ _ _ _ _ c.acked-answer.result c.allowed.result (λ old new n h. acked_names c.args.number old new n h) c.acked-answer.ensures.called c.allowed.ensures
