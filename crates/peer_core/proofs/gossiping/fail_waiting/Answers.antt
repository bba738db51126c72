use Rattle.std.proofs.Common.{ap, rules}
use Rattle.peer_core.specs.Rounds.{way_of_waiting}
use Rattle.peer_core.proofs.Turns.{waiting_ends}
use Rattle.peer_core.proofs.Parts.{does_end, does_left, does_stop_turn_at, leads_none, leads_then, leads_turn}
use Rattle.peer_core.proofs.gossiping.fail_waiting.Goals as goal

pub loop-init : goal.loop-init
loop-init g c = record { left = leads_none _ _ _; fits = c.requires }

pub returns-in_err-next-clause-did : goal.returns-in_err-next-clause-did
returns-in_err-next-clause-did g c =
    does_left c.loop.invariant.left (does_stop_turn_at _ _ _ _ c.from_residual.result c.from_residual.ensures.1 c.in_err-next.ensures.did)

pub returns-in_default-clause-did : goal.returns-in_default-clause-did
returns-in_default-clause-did g c =
    does_left c.loop.invariant.left (does_end _ _ _ c.in_ok-next.next _ c.in_ok-next.ensures.did (waiting_ends c.in_ok-next.next (search rules)))

pub loop-preserved : goal.loop-preserved
loop-preserved g c = record {
  left = leads_then c.loop.invariant.left (leads_turn _ _ _ c.in-Some-next.waiting c.in_ok-next.next c.in_ok-next.ensures.did (ap way_of_waiting c.in-Some-next.is));
  fits = c.fail_one.ensures.fits;
}
