use Rattle.peer_core.proofs.Parts.{does_next, does_stop_locked}
use Rattle.peer_core.proofs.Exchanges.{sent_hushed, sent_then}
use Rattle.peer_core.proofs.Hushed.{hushes_requester}
use Rattle.peer_core.proofs.serving.report_target.Goals as goal

pub returns-in_err-found-clause-did : goal.returns-in_err-found-clause-did
returns-in_err-found-clause-did g c = does_stop_locked _ _ c.in_err-found.field-0.0 c.from_residual.result c.from_residual.ensures.1 c.in_err-found.ensures.did

pub returns-clause-did : goal.returns-clause-did
returns-clause-did g c = does_next _ _ _ _ c.in_ok-found.ensures.did c.tell_requester.ensures.did

pub returns-clause-sent : goal.returns-clause-sent
returns-clause-sent g c = sent_then c.in_ok-found.ensures.sent (sent_hushed (hushes_requester c.args.requester c.args.target c.in_ok-found.found) c.tell_requester.ensures.did)
