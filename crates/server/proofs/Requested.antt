-- Requests whose handler promises more.
use Rattle.std.proofs.Common.{ℕ, List, Result}
use Rattle.peer_core.specs.declared.errors.ClusterError.{ClusterError}
use Rattle.peer_core.specs.Acts.{Act}
use Rattle.peer_core.specs.Forwarding.{IsRequest, Times}
use Rattle.peer_core.specs.Handling.{MayHandle, between, handled_shared}
use Rattle.peer_core.specs.Members.{Caller, Done}
use Rattle.peer_core.proofs.Parts.{does_part}
use Rattle.peer_core.proofs.Requesting.{requested_as}
use Rattle.peer_core.specs.Links.{any_answer}
use Rattle.server.specs.Seats.{Requests}

-- any moment may be told, and waited for
abbrev AtAnyTime : Times
AtAnyTime = record { told = λ now. Unit {0}; waited = λ until. Unit {0} }

-- a request by a handler that is shared
pub requested_shared : {H L A : Type 0} (hash_of : H → List ℕ → ℕ) (is was : A) (Handles : A → MayHandle) (keys : List (List ℕ)) (body : List ℕ) (r : Result (List ℕ) ClusterError)
    (old new : Caller H L) → Done (IsRequest hash_of any_answer (between (handled_shared Handles) was is).once AtAnyTime keys body) r old new → Done (Requests hash_of (Handles was) keys body) r old new
requested_shared {H} hash_of is was Handles keys body r old new done = record {
  node = done.node;
  pass = done.pass;
  link = done.link;
  does =
      does_part (Requests hash_of (Handles was) keys body)
      (λ (acts : List (Act H)). requested_as hash_of any_answer (between (handled_shared Handles) was is).once (Handles was) AtAnyTime (λ ks text answer called. called.1) keys body r acts) done.does;
}
