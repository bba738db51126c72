use Rattle.peer_core.specs.Errors.{IsJoinRefusal}
use Rattle.peer_core.proofs.Acts.{said_so}
use Rattle.peer_core.proofs.Parts.{does_next, does_stop_at}
use Rattle.peer_core.proofs.Exchanges.{sent_hushed, sent_then}
use Rattle.peer_core.proofs.Hushed.{hushes_host}
use Rattle.peer_core.proofs.joining.join_host.Goals as goal

pub returns-in_err-heard-clause-did : goal.returns-in_err-heard-clause-did
returns-in_err-heard-clause-did g c = does_stop_at _ _ _ c.from_residual.result c.from_residual.ensures.1 c.in_err-heard.ensures.did

pub returns-in_err-heard-clause-named : goal.returns-in_err-heard-clause-named
returns-in_err-heard-clause-named g c = said_so IsJoinRefusal c.from_residual.result c.in_err-heard.field-0.0 c.from_residual.ensures.1 c.in_err-heard.ensures.named

pub returns-clause-did : goal.returns-clause-did
returns-clause-did g c = does_next _ _ _ _ c.in_ok-heard.ensures.did c.take_joined.ensures.did

pub returns-clause-sent : goal.returns-clause-sent
returns-clause-sent g c = sent_then c.in_ok-heard.ensures.sent (sent_hushed (hushes_host c.args.now c.in_ok-heard.heard) c.take_joined.ensures.did)
