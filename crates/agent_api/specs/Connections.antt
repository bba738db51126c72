-- What an HTTP connection of an agent reads and writes.
use Rattle.std.specs.Prelude.{◌≡◌, ◌⊎◌, ℕ, List, [], ◌∷◌, ◌++◌, Option, None}
use Rattle.std.specs.Io.KnownBytes.{Appends, Consumes}
use Rattle.http_server.specs.Exchange.{Call}
use Rattle.http_server.specs.History.{History, IsServed}
use Rattle.hash_ring.specs.declared.hash.Sha256Hash.{Sha256Hash}
use Rattle.peer_core.specs.Acts.{OfActs, Nothing, Then}
use Rattle.agent_http.specs.Visits.{connection_limits}
use Rattle.agent_api.specs.Answers.{IsAnswered}
use Rattle.agent_node.specs.Calling.{Calling, HasMade}

-- the requests are answered one after the other, each by its response, and these are all calls of the node that were made meanwhile
abbrev pub AnswersEach : ℕ → ℕ → Option (List ℕ) → List Call → OfActs Sha256Hash
AnswersEach own replicas field [] = Nothing
AnswersEach own replicas field (call ∷ calls) = Then (IsAnswered own replicas field call.0 call.1) (AnswersEach own replicas field calls)

-- A visit takes a connection from one point of its history to another, whose part is what was read and what was written meanwhile. By HTTP,
-- all that was ever written, and then what waits, are responses to the requests that were ever read, in order. Each response of the visit is an
-- answer of an agent that states this address and this many replicas, and that passes any request of a key on, which a field of this name
-- may name, or does not, after calls of its node by the thread's pass.
pub record SendsAnswers (own replicas : ℕ) (field : Option (List ℕ)) (before after : History) (unread left written wrote : Option (List ℕ)) (old new : Calling) : Type 0 where
  pub read : (came : List ℕ) × Consumes unread left came × (after.received ≡ before.received ++ came)
  pub sent : (went : List ℕ) × Appends written wrote went × (after.sent ≡ before.sent ++ went)
  pub served : ∥ IsServed connection_limits after ∥₁
  pub answered : (calls : List Call) × (after.calls ≡ before.calls ++ calls) × HasMade (AnswersEach own replicas field calls) old new

-- a worker's visit of a connection called the node for the answers to its requests alone, or not at all; which bytes came over it is not known
abbrev pub HasServed : ℕ → ℕ → Option (List ℕ) → Calling → Calling → Type 0
HasServed own replicas field old new =
    ((before after : History) × SendsAnswers own replicas field before after None None None None old new) ⊎ (new ≡ old)
