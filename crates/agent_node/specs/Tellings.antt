-- The ring on its way to the thread that tells the application.
use Rattle.std.specs.Prelude.{Bool, true, false, List, [], ◌∷◌, Option, Some, None}
use Rattle.agent_core.specs.Tellings.{Event, Hurried, Noted}
use Rattle.agent_core.specs.declared.tellings.Ring.{Ring}

-- the events of a telling to which a ring comes, if one was noted, and then a hurry, if there is one
abbrev pub events_of : Option Ring → Bool → List Event
events_of None false = []
events_of None true = Hurried ∷ []
events_of (Some ring) false = Noted ring ∷ []
events_of (Some ring) true = Noted ring ∷ Hurried ∷ []
