use Rattle.peer_core.proofs.Parts.{does_next}
use Rattle.peer_core.proofs.Exchanges.{sent_pinged, sent_pinged_none}
use Rattle.peer_core.proofs.correcting.probe_and_correct.Goals as goal

pub returns-clause-did : goal.returns-clause-did
returns-clause-did g c = does_next _ _ _ _ c.in_ok-heard.ensures.did c.hear_and_correct.ensures.did

pub returns-in_err-heard-clause-sent : goal.returns-in_err-heard-clause-sent
returns-in_err-heard-clause-sent g c = sent_pinged_none c.in_err-heard.ensures.sent

pub returns-clause-sent : goal.returns-clause-sent
returns-clause-sent g c =
    sent_pinged g.L.Link.may_answer c.args.probe.now.target c.in_ok-heard.heard c.in_ok-heard.ensures.did c.in_ok-heard.ensures.sent c.hear_and_correct.ensures.sent
