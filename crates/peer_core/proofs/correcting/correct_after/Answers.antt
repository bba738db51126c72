use Rattle.peer_core.specs.Errors.{IsRoundRefusal}
use Rattle.peer_core.proofs.Acts.{said_so}
use Rattle.peer_core.proofs.Corrected.{named_correction}
use Rattle.peer_core.proofs.Parts.{does_give, does_next, does_stop_at}
use Rattle.peer_core.proofs.correcting.correct_after.Goals as goal

pub returns-in_err-correct-clause-did : goal.returns-in_err-correct-clause-did
returns-in_err-correct-clause-did g c = does_stop_at _ _ _ c.from_residual.result c.from_residual.ensures.1 c.in_err-correct.ensures.did

pub returns-in_err-correct-clause-named : goal.returns-in_err-correct-clause-named
returns-in_err-correct-clause-named g c =
    said_so IsRoundRefusal c.from_residual.result c.in_err-correct.field-0.0 c.from_residual.ensures.1
    (named_correction g.L.Link.may_answer c.args.now c.args.target c.args.heard.now c.in_err-correct.field-0.0 c.in_err-correct.ensures.did)

pub returns-clause-did : goal.returns-clause-did
returns-clause-did g c = does_next _ _ _ _ c.in_ok-correct.ensures.did (does_give _ _ _)
