use Rattle.peer_core.proofs.Parts.{does_next, does_stop_at}
use Rattle.peer_core.proofs.Exchanges.{sent_none, sent_then}
use Rattle.peer_core.specs.Exchanges.{listed}
use Rattle.peer_core.proofs.healing.carry_out.Goals as goal

pub returns-in_err-meet_chosen-clause-did : goal.returns-in_err-meet_chosen-clause-did
returns-in_err-meet_chosen-clause-did g c = does_stop_at _ _ _ c.from_residual.result c.from_residual.ensures.1 c.in_err-meet_chosen.ensures.did

pub returns-clause-did : goal.returns-clause-did
returns-clause-did g c = does_next _ _ _ _ c.in_ok-meet_chosen.ensures.did c.join_chosen.ensures.did

pub returns-in_err-meet_chosen-clause-sent : goal.returns-in_err-meet_chosen-clause-sent
returns-in_err-meet_chosen-clause-sent g c = sent_then c.in_err-meet_chosen.ensures.sent (sent_none (listed c.args.choice.now.host))

pub returns-clause-sent : goal.returns-clause-sent
returns-clause-sent g c = sent_then c.in_ok-meet_chosen.ensures.sent c.join_chosen.ensures.sent
