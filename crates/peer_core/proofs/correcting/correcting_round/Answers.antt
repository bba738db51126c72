use Rattle.peer_core.proofs.Parts.{does_give, does_next, does_next_is, does_stop_at}
use Rattle.std.proofs.Common.{rules}
use Rattle.peer_core.specs.Exchanges.{SendsToPinged}
use Rattle.peer_core.proofs.Exchanges.{sent_as_over, sent_hushed, sent_pinged_later, sent_pinged_none, sent_then}
use Rattle.peer_core.proofs.Hushed.{hushes_expires}
use Rattle.peer_core.proofs.correcting.correcting_round.Goals as goal

pub returns-in_err-probe-clause-round : goal.returns-in_err-probe-clause-round
returns-in_err-probe-clause-round g c =
    does_next _ _ _ _ c.in_ok-expire_all.ensures.did
    (does_stop_at _ _ _ c.from_residual-in_err-probe.result c.from_residual-in_err-probe.ensures.1 c.in_err-probe.ensures.did)

pub returns-in-None-clause-round : goal.returns-in-None-clause-round
returns-in-None-clause-round g c =
    does_next _ _ _ _ c.in_ok-expire_all.ensures.did (does_next_is _ _ _ _ _ c.in_ok-probe.ensures.did c.in-None.is (does_give _ _ _))

pub returns-in-Some-clause-round : goal.returns-in-Some-clause-round
returns-in-Some-clause-round g c =
    does_next _ _ _ _ c.in_ok-expire_all.ensures.did (does_next_is _ _ _ _ _ c.in_ok-probe.ensures.did c.in-Some.is c.probe_and_correct.ensures.did)

pub returns-in_err-expire_all-clause-sent : goal.returns-in_err-expire_all-clause-sent
returns-in_err-expire_all-clause-sent g c =
    sent_as_over {a = c.new-peers.result.link} (SendsToPinged g.L.Link.went) c.new-peers.ensures.link (search rules)
    (sent_pinged_none (sent_hushed (hushes_expires c.args.now) c.expire_all.ensures.did))

pub returns-in_err-probe-clause-sent : goal.returns-in_err-probe-clause-sent
returns-in_err-probe-clause-sent g c =
    sent_as_over (SendsToPinged g.L.Link.went) c.new-peers.ensures.link (search rules)
    (sent_pinged_none (sent_then (sent_hushed (hushes_expires c.args.now) c.expire_all.ensures.did) c.start_probe.ensures.sent))

pub returns-in-None-clause-sent : goal.returns-in-None-clause-sent
returns-in-None-clause-sent g c =
    sent_as_over (SendsToPinged g.L.Link.went) c.new-peers.ensures.link (search rules)
    (sent_pinged_none (sent_then (sent_hushed (hushes_expires c.args.now) c.expire_all.ensures.did) c.start_probe.ensures.sent))

pub returns-in-Some-clause-sent : goal.returns-in-Some-clause-sent
returns-in-Some-clause-sent g c =
    sent_as_over (SendsToPinged g.L.Link.went) c.new-peers.ensures.link (search rules)
    (sent_pinged_later (sent_then (sent_hushed (hushes_expires c.args.now) c.expire_all.ensures.did) c.start_probe.ensures.sent) c.probe_and_correct.ensures.sent)
