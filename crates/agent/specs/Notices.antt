-- The notices by which the application is told of the ring.
use Rattle.std.specs.Prelude.{◌≡◌, ◌⊎◌, ℕ, Bool, Option}
use Rattle.agent_core.specs.Tellings.{after_all, failed, taken}
use Rattle.agent_core.specs.declared.tellings.Ring.{Ring}
use Rattle.agent_core.specs.declared.tellings.Telling.{Telling}
use Rattle.agent_node.specs.Tellings.{events_of}

-- the application took the notice, or did not at some moment
abbrev pub TellsOnce : Telling → Telling → Type 0
TellsOnce old new = (new ≡ taken old) ⊎ ((now : ℕ) × (new ≡ failed old now))

-- one notice was sent at most, and then a ring was noted, if one came, and a hurry, if there was one
pub record Tells (old new : Telling) : Type 0 where
  pub mid : Telling
  pub sent : (mid ≡ old) ⊎ TellsOnce old mid
  pub ring : Option Ring
  pub is_hurried : Bool
  pub noted : new ≡ after_all mid (events_of ring is_hurried)
