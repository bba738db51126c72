-- Requests that HTTP itself refuses.
use Rattle.std.specs.Prelude.{ℕ, ◌+◌, ◌-◌, ◌*◌, Bool, true, false, List, [], ◌∷◌, Option, Some, None}
use Rattle.http_server.specs.Refusal.{refusal_status}
use Rattle.http_server.specs.declared.state.Reason.{Reason}
use Rattle.http_server.specs.declared.state.Reason.TheVariants.{Refused}
use Rattle.http_server.specs.declared.state.Refusal.{Refusal}
use Rattle.http_server.specs.declared.state.State.{State}
use Rattle.http_server.specs.declared.state.State.TheVariants.{Closing}

-- the refusal for which a connection is closed, if it is
abbrev pub refusal_of : Reason → Option Refusal
refusal_of (Refused refusal) = Some refusal
refusal_of other = None

-- the refusal in which a state is, if it is in one
abbrev pub refused_in : State → Option Refusal
refused_in (Closing reason) = refusal_of reason
refused_in other = None

-- the refusal in which a connection that was open, or was not, has come to a state
abbrev pub refusal_in : Bool → State → Option Refusal
refusal_in true state = refused_in state
refusal_in false state = None

-- the number of a text's first three digits; 0 of a shorter text
abbrev pub number_at : List ℕ → ℕ
number_at [] = 0
number_at (a ∷ []) = 0
number_at (a ∷ (b ∷ [])) = 0
number_at (a ∷ (b ∷ (c ∷ rest))) = (a - 48) * 100 + (b - 48) * 10 + (c - 48)

-- the status in the response to a request that is refused
abbrev pub status_in : Refusal → ℕ
status_in refusal = number_at (refusal_status refusal)
