use Rattle.peer_core.specs.Rounds.{Finishes}
use Rattle.peer_core.proofs.Parts.{does_next, does_stop_at}
use Rattle.peer_core.proofs.Exchanges.{sent_hushed, sent_then}
use Rattle.peer_core.proofs.Hushed.{hushes_begins, hushes_running}
use Rattle.peer_core.proofs.gossiping.restart_probe.Goals as goal

pub returns-in_err-finish_stale_probe-clause-did : goal.returns-in_err-finish_stale_probe-clause-did
returns-in_err-finish_stale_probe-clause-did g c =
    does_stop_at _ _ _ c.from_residual-in_err-finish_stale_probe.result c.from_residual-in_err-finish_stale_probe.ensures.1
    (does_next _ (Finishes g.L.Link.may_answer c.args.now) _ _ c.in_ok-running.ensures.did c.in_err-finish_stale_probe.ensures.did)

pub returns-clause-did : goal.returns-clause-did
returns-clause-did g c =
    does_next _ _ _ _ (does_next _ (Finishes g.L.Link.may_answer c.args.now) _ _ c.in_ok-running.ensures.did c.in_ok-finish_stale_probe.ensures.did) c.begin_probe.ensures.did

pub returns-in_err-running-clause-sent : goal.returns-in_err-running-clause-sent
returns-in_err-running-clause-sent g c = sent_hushed hushes_running c.in_err-running.ensures.did

pub returns-in_err-finish_stale_probe-clause-sent : goal.returns-in_err-finish_stale_probe-clause-sent
returns-in_err-finish_stale_probe-clause-sent g c = sent_then (sent_hushed hushes_running c.in_ok-running.ensures.did) c.in_err-finish_stale_probe.ensures.sent

pub returns-clause-sent : goal.returns-clause-sent
returns-clause-sent g c = sent_then (sent_hushed hushes_running c.in_ok-running.ensures.did) (sent_then c.in_ok-finish_stale_probe.ensures.sent (sent_hushed hushes_begins c.begin_probe.ensures.did))
