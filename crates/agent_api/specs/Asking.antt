-- What a request of a client asks of the application, and which node answers it.
use Rattle.std.specs.Prelude.{◌≡◌, ◌⊎◌, Bool, true, false, Option, Some, None, Err}
use Rattle.change_core.specs.declared.addresses.Address.{Address}
use Rattle.peer_core.specs.Handling.{Handled}
use Rattle.peer_core.specs.declared.errors.HandlerFault.TheVariants as fault
use Rattle.peer_core.specs.Forwarding.{Times}
use Rattle.agent_node.specs.Noting.{notes_call}

-- what a request asks of the application: a call of it is noted, and there is none if the wait of the request was over before
abbrev pub notes_asking : Handled Bool
notes_asking keys body answer was is = notes_call keys body answer was is ⊎ ((is ≡ was) × (answer ≡ Err fault.Memory))

-- the node that gave an answer: the one with the own address, if its application was asked, or else the one that the link noted
abbrev pub answerer : Address → Bool → Option Address → Address
answerer own true noted = own
answerer own false None = own
answerer own false (Some last) = last

-- the system's clock may tell any moment, and may have waited until any
abbrev pub AnyTimes : Times
AnyTimes = record { told = λ now. Unit {0}; waited = λ until. Unit {0} }
