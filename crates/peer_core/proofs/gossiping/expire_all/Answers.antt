use Rattle.std.proofs.Common.{rules}
use Rattle.peer_core.proofs.Turns.{expiry_ends, expiry_goes}
use Rattle.peer_core.proofs.Parts.{does_end, does_left, does_stop_turn_at, leads_none, leads_then, leads_turn}
use Rattle.peer_core.proofs.gossiping.expire_all.Goals as goal

pub loop-init : goal.loop-init
loop-init g c = record { left = leads_none _ _ _; fits = c.requires }

pub returns-in_err-expired-clause-did : goal.returns-in_err-expired-clause-did
returns-in_err-expired-clause-did g c =
    does_left c.loop.invariant.left (does_stop_turn_at _ _ _ _ c.from_residual.result c.from_residual.ensures.1 c.in_err-expired.ensures.did)

pub returns-then-is_none-clause-did : goal.returns-then-is_none-clause-did
returns-then-is_none-clause-did g c =
    does_left c.loop.invariant.left (does_end _ _ _ c.in_ok-expired.expired _ c.in_ok-expired.ensures.did (expiry_ends c.in_ok-expired.expired (search rules)))

pub loop-preserved : goal.loop-preserved
loop-preserved g c = record {
  left = leads_then c.loop.invariant.left (leads_turn _ _ _ _ c.in_ok-expired.expired c.in_ok-expired.ensures.did (expiry_goes c.in_ok-expired.expired (search rules)));
  fits = c.expire.ensures.fits;
}
