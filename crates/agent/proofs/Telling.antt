-- The notices by which the application is told of the ring.
use Rattle.std.proofs.Common.{◌≡◌, ℕ, Bool, Option, inl, inr, refl}
use Rattle.agent_core.specs.Tellings.{after_all, failed, taken}
use Rattle.agent_core.specs.declared.tellings.Ring.{Ring}
use Rattle.agent_core.specs.declared.tellings.Telling.{Telling}
use Rattle.agent_node.specs.Tellings.{events_of}
use Rattle.agent.specs.Notices.{Tells, TellsOnce}

-- the application took the notice
pub tells_taken : (a b : Telling) → b ≡ taken a → TellsOnce a b
tells_taken a b is = inl is

-- it did not
pub tells_failed : (a b : Telling) (now : ℕ) → b ≡ failed a now → TellsOnce a b
tells_failed a b now is = inr (now, is)

-- a notice was sent
pub tells_sent : (a m b : Telling) → TellsOnce a m → ((ring : Option Ring) × ((hurries : Bool) × (b ≡ after_all m (events_of ring hurries)))) → Tells a b
tells_sent a m b sent came = record { mid = m; sent = inr sent; ring = came.0; is_hurried = came.1.0; noted = came.1.1 }

-- none was sent
pub tells_none : (a b : Telling) → ((ring : Option Ring) × ((hurries : Bool) × (b ≡ after_all a (events_of ring hurries)))) → Tells a b
tells_none a b came = record { mid = a; sent = inl refl; ring = came.0; is_hurried = came.1.0; noted = came.1.1 }
