use Rattle.peer_core.proofs.Named.{expire_names, named_try}
use Rattle.peer_core.proofs.Parts.{does_as, does_try}
use Rattle.peer_core.proofs.steps.expire.Goals as goal

pub returns-clause-did : goal.returns-clause-did
returns-clause-did g c = does_as c.allowed.ensures (does_try _ _ _ c.expire-answer.result c.expire-answer.ensures.called c.expire-answer.ensures.refused)

pub returns-clause-named : goal.returns-clause-named
returns-clause-named g c =
    named_try _ _ _ _ _ _ c.expire-answer.result c.allowed.result (λ old new n h. expire_names c.args.now old new n h) c.expire-answer.ensures.called c.allowed.ensures
