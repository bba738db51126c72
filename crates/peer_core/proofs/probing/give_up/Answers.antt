use Rattle.std.proofs.Common.{[], ap, rules}
use Rattle.peer_core.specs.Rounds.{way_of_ending}
use Rattle.peer_core.proofs.Turns.{ending_goes}
use Rattle.peer_core.proofs.Parts.{does_end, does_left, does_stop_turn_at, leads_none, leads_then, leads_turn}
use Rattle.peer_core.proofs.Exchanges.{sent_none, sent_then}
use Rattle.peer_core.proofs.probing.give_up.Goals as goal

pub loop-init : goal.loop-init
loop-init g c = record { left = leads_none _ _ _; sent = sent_none []; fits = c.requires }

pub returns-in_err-end-clause-did : goal.returns-in_err-end-clause-did
returns-in_err-end-clause-did g c =
    does_left c.loop.invariant.left (does_stop_turn_at _ _ _ _ c.from_residual.result c.from_residual.ensures.1 c.in_err-end.ensures.did)

pub returns-in-Some-end-clause-did : goal.returns-in-Some-end-clause-did
returns-in-Some-end-clause-did g c =
    does_left c.loop.invariant.left (does_end _ _ _ c.in_ok-end.end _ c.in_ok-end.ensures.did (ap way_of_ending c.in-Some-end.is))

pub loop-preserved : goal.loop-preserved
loop-preserved g c = record {
  left = leads_then c.loop.invariant.left (leads_turn _ _ _ _ c.in_ok-end.end c.in_ok-end.ensures.did (ending_goes c.in_ok-end.end (search rules)));
  sent = sent_then c.loop.invariant.sent c.in_ok-end.ensures.sent;
  fits = c.give_up_once.ensures.fits;
}

pub returns-in_err-end-clause-sent : goal.returns-in_err-end-clause-sent
returns-in_err-end-clause-sent g c = sent_then c.loop.invariant.sent c.in_err-end.ensures.sent

pub returns-in-Some-end-clause-sent : goal.returns-in-Some-end-clause-sent
returns-in-Some-end-clause-sent g c = sent_then c.loop.invariant.sent c.in_ok-end.ensures.sent
