-- The application as one request asks it, which keeps to the time for which the request may wait.
use Rattle.peer_core.specs.Handling.{Handled}
use Rattle.agent_api.specs.Asking.{notes_asking}
use Rattle.agent_api.specs.declared.patience.Patient.{Patient}

-- a call of the application is noted, and there is none if the wait of the request was over before
abbrev pub asks_patiently : {R : Type 0} → Handled (Patient R)
asks_patiently keys body answer old new = notes_asking keys body answer old.was_asked new.was_asked
