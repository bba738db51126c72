-- A seat: a server and a handle of its node, by which one thread calls it.
use Rattle.std.specs.Prelude.{◌≡◌, List, ℕ, Result, IfOk, IfErr}
use Rattle.change_core.specs.declared.addresses.Address.{Address}
use Rattle.node_core.specs.declared.events.Event.{Event}
use Rattle.node_core.specs.declared.events.Reply.{Reply}
use Rattle.node_core.specs.Calls.{Call, OfEvent, Answer, WithReply}
use Rattle.turn_lock.specs.declared.errors.LockError.{LockError}
use Rattle.locked_node.specs.Passes.{NodePass, IsBarred, IsCalled}
use Rattle.peer_core.specs.declared.errors.ClusterError.{ClusterError}
use Rattle.peer_core.specs.Forwarding.{IsRequest}
use Rattle.peer_core.specs.Handling.{MayHandle}
use Rattle.peer_core.specs.Joining.{IsJoin}
use Rattle.peer_core.specs.Parts.{Part, Does}
use Rattle.peer_core.specs.Links.{any_answer}
use Rattle.server.specs.declared.servers.Server.{Server}

-- the server, and the handle
pub record Seated (H A : Type 0) : Type 0 where
  pub server : Server H A
  pub handle : NodePass H

module _ {H : Type 0} where
  -- these hosts are joined at some moment, over a link whose answers may be any
  abbrev pub JoinsHosts : List Address → Part H ℕ
  JoinsHosts hosts r acts = (now : ℕ) × IsJoin any_answer now hosts r acts

  -- a request, over a link whose answers may be any, with a clock that may tell any moment
  abbrev pub Requests : (H → List ℕ → ℕ) → MayHandle → List (List ℕ) → List ℕ → Part H (List ℕ)
  Requests hash_of Handled keys body = IsRequest hash_of any_answer Handled (record { told = λ now. Unit {0}; waited = λ until. Unit {0} }) keys body

module _ {H A : Type 0} where
  -- The seat did the part, with this result, at the same server.
  pub record Did {B : Type 0} (P : Part H B) (r : Result B ClusterError) (old new : Seated H A) : Type 0 where
    pub server : new.server ≡ old.server
    pub does : Does old.server.node P r old.handle new.handle

  -- The seat made this call of the server's node, with this answer; or the lock refused the handle, and nothing changed.
  pub record Asked {B : Type 0} (hash_of : H → List ℕ → ℕ) (call : Call) (answer_of : B → Answer H) (r : Result B LockError) (old new : Seated H A) : Type 0 where
    pub server : new.server ≡ old.server
    pub asked : IfOk r (λ b. IsCalled hash_of old.server.node old.handle new.handle call (answer_of b))
    pub refused : IfErr r (IsBarred old.server.node old.handle new.handle)

  -- the same of the call that an event names
  abbrev pub Replied : {B : Type 0} → (H → List ℕ → ℕ) → Event → (B → Reply) → Result B LockError → Seated H A → Seated H A → Type 0
  Replied hash_of event reply_of = Asked hash_of (OfEvent event) (λ b. WithReply (reply_of b))
