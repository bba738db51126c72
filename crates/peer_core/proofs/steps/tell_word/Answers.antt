use Rattle.peer_core.proofs.Named.{helper_names, named_try}
use Rattle.peer_core.proofs.Parts.{does_as, does_try}
use Rattle.peer_core.proofs.steps.tell_word.Goals as goal

pub returns-clause-did : goal.returns-clause-did
returns-clause-did g c = does_as c.allowed.ensures (does_try _ _ _ c.helper_said-answer.result c.helper_said-answer.ensures.called c.helper_said-answer.ensures.refused)

pub returns-clause-named : goal.returns-clause-named
returns-clause-named g c =
    named_try _ _ _ _ _ _ c.helper_said-answer.result c.allowed.result (λ old new n h. helper_names c.args.number c.args.helper c.args.said c.args.now old new n h) c.helper_said-answer.ensures.called c.allowed.ensures
