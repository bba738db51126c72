use Rattle.std.proofs.Common.{[], rules}
use Rattle.peer_core.proofs.Turns.{finishing}
use Rattle.peer_core.proofs.Parts.{does_give, does_next, does_stop_at}
use Rattle.peer_core.proofs.Exchanges.{sent_hushed, sent_none}
use Rattle.peer_core.proofs.Hushed.{hushes_fails_from}
use Rattle.peer_core.proofs.gossiping.finish_stale_probe.Goals as goal

pub returns-in_err-_round-clause-did : goal.returns-in_err-_round-clause-did
returns-in_err-_round-clause-did g c =
    finishing g.L.Link.may_answer c.args.now c.args.running c.in-Some.running c.in-Some.is (search rules)
    (does_stop_at _ _ _ c.from_residual.result c.from_residual.ensures.1 c.in_err-_round.ensures.did)

pub returns-clause-did : goal.returns-clause-did
returns-clause-did g c =
    finishing g.L.Link.may_answer c.args.now c.args.running c.in-Some.running c.in-Some.is (search rules)
    (does_next _ _ _ _ c.in_ok-_round.ensures.did (does_give _ _ _))

pub returns-in_default-clause-sent : goal.returns-in_default-clause-sent
returns-in_default-clause-sent g c = sent_none []

pub returns-in-Some-waiting-clause-sent : goal.returns-in-Some-waiting-clause-sent
returns-in-Some-waiting-clause-sent g c = sent_hushed (hushes_fails_from c.args.now c.in-Some.running.number c.in-Some-waiting.helper) c.fail_waiting.ensures.did
