use Rattle.peer_core.proofs.Parts.{does_next, does_stop_at}
use Rattle.std.proofs.Common.{[], ◌∷◌}
use Rattle.peer_core.proofs.Exchanges.{sent_more, sent_then}
use Rattle.peer_core.proofs.correcting.hear_and_correct.Goals as goal

pub returns-in_err-round-clause-did : goal.returns-in_err-round-clause-did
returns-in_err-round-clause-did g c = does_stop_at _ _ _ c.from_residual.result c.from_residual.ensures.1 c.in_err-round.ensures.did

pub returns-clause-did : goal.returns-clause-did
returns-clause-did g c = does_next _ _ _ _ c.in_ok-round.ensures.did c.correct_after.ensures.did

pub returns-in_err-round-clause-sent : goal.returns-in_err-round-clause-sent
returns-in_err-round-clause-sent g c = sent_more (c.args.probe.now.target ∷ []) c.in_err-round.ensures.sent

pub returns-clause-sent : goal.returns-clause-sent
returns-clause-sent g c = sent_then c.in_ok-round.ensures.sent c.correct_after.ensures.sent
