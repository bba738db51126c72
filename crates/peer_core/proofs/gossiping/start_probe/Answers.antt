use Rattle.std.proofs.Common.{◌≡◌, Err, rules}
use Rattle.node_core.specs.declared.errors.NodeError.TheVariants as refusal
use Rattle.peer_core.proofs.Parts.{does_next_is}
use Rattle.peer_core.proofs.Exchanges.{sent_hushed, sent_then}
use Rattle.peer_core.proofs.Hushed.{hushes_asks}
use Rattle.peer_core.proofs.gossiping.start_probe.Goals as goal

pub returns-in-Err-Busy-clause-did : goal.returns-in-Err-Busy-clause-did
returns-in-Err-Busy-clause-did g c =
    let busy : c.in_ok-first.first ≡ Err refusal.Busy = search rules in
    does_next_is _ _ _ _ _ c.in_ok-first.ensures.did busy c.restart_probe.ensures.did

pub returns-in_err-first-clause-sent : goal.returns-in_err-first-clause-sent
returns-in_err-first-clause-sent g c = sent_hushed hushes_asks c.in_err-first.ensures.did

pub returns-in-Ok-clause-sent : goal.returns-in-Ok-clause-sent
returns-in-Ok-clause-sent g c = sent_hushed hushes_asks c.in_ok-first.ensures.did

pub returns-in-Err-Busy-clause-sent : goal.returns-in-Err-Busy-clause-sent
returns-in-Err-Busy-clause-sent g c = sent_then (sent_hushed hushes_asks c.in_ok-first.ensures.did) c.restart_probe.ensures.sent

pub returns-in-Err-clause-sent : goal.returns-in-Err-clause-sent
returns-in-Err-clause-sent g c = sent_hushed hushes_asks c.in_ok-first.ensures.did
