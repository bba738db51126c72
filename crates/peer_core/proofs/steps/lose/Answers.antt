use Rattle.peer_core.proofs.Named.{lost_names, named_try}
use Rattle.peer_core.proofs.Parts.{does_as, does_try}
use Rattle.peer_core.proofs.steps.lose.Goals as goal

pub returns-clause-did : goal.returns-clause-did
returns-clause-did g c = does_as c.allowed.ensures (does_try _ _ _ c.lost-answer.result c.lost-answer.ensures.called c.lost-answer.ensures.refused)

pub returns-clause-named : goal.returns-clause-named
returns-clause-named g c =
    named_try _ _ _ _ _ _ c.lost-answer.result c.allowed.result (λ old new n h. lost_names c.args.number c.args.now old new n h) c.lost-answer.ensures.called c.allowed.ensures
