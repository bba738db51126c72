-- What a connection sends, from what its loop says.
use Rattle.std.proofs.Common.{◌≡◌, ℕ, List, [], ◌∷◌, ◌++◌, Option, ap, refl, subst}
use Rattle.std.specs.Io.KnownBytes.{Appends, Consumes}
use Rattle.http.specs.declared.request.Request.{Request}
use Rattle.http_server.proofs.Theorems.{always_served}
use Rattle.http_server.specs.Connection.{config_of, history}
use Rattle.http_server.specs.Exchange.{Call, Chain}
use Rattle.http_server.specs.History.{IsServed}
use Rattle.http_server.specs.declared.connection.Connection.{Connection}
use Rattle.http_server.specs.declared.response.Response.{Response}
use Rattle.agent_api.specs.Answers.{IsAnswered}
use Rattle.agent_node.specs.Calling.{Calling, HasMade}
use Rattle.agent_http.specs.Visits.{connection_limits}
use Rattle.agent_api.specs.Connections.{AnswersEach, SendsAnswers}
use Rattle.agent_node.proofs.Made.{made_none, made_then}

module _ {S : Type 0} (answers : S → Request (List ℕ) → Response → S → Type 0) (own replicas : ℕ) (field : Option (List ℕ)) (IsOfNode : S → Type 0) (calling : S → Calling)
    (step : (a b : S) (request : Request (List ℕ)) (response : Response) → IsOfNode a → answers a request response b
    → IsOfNode b × HasMade (IsAnswered own replicas field request response) (calling a) (calling b)) where
  -- each call of a chain is answered by the node, as each step from a service of the node leads to one
  pub chain_answered : (calls : List Call) (old new : S) → IsOfNode old → Chain answers old calls new → HasMade (AnswersEach own replicas field calls) (calling old) (calling new)
  chain_answered [] old new ours chain = made_none (AnswersEach own replicas field []) (calling old) (calling new) (ap calling chain) refl
  chain_answered (call ∷ calls) old new ours chain =
      let first = step old chain.0 call.0 call.1 ours chain.1 in
      made_then (IsAnswered own replicas field call.0 call.1) (AnswersEach own replicas field calls) (calling old) (calling chain.0) (calling new) first.1
      (chain_answered calls chain.0 new first.0 chain.2)

module _ (own replicas : ℕ) (field : Option (List ℕ)) (first last : Connection) (unread left written wrote : Option (List ℕ)) (old new : Calling)
    (limits : config_of last ≡ connection_limits) where
  -- a connection that made these calls, and read and wrote so, sends answers
  pub sends_answers : ((came : List ℕ) × Consumes unread left came × ((history last).received ≡ (history first).received ++ came))
      → ((went : List ℕ) × Appends written wrote went × ((history last).sent ≡ (history first).sent ++ went))
      → (calls : List Call) → (history last).calls ≡ (history first).calls ++ calls → HasMade (AnswersEach own replicas field calls) old new
      → SendsAnswers own replicas field (history first) (history last) unread left written wrote old new
  sends_answers read sent calls made answered = record {
    read = read;
    sent = sent;
    served = subst (λ config. ∥ IsServed config (history last) ∥₁) limits (always_served last);
    answered = (calls, made, answered);
  }
