-- The answer to a request over HTTP: what the request asks for, what was done by the node, and the response.
use Rattle.std.specs.Prelude.{◌⊎◌, ℕ, IsTrue, List, [], Option, Result, Ok, Err, codes}
use Rattle.hash_ring.specs.declared.hash.Sha256Hash.{Sha256Hash}
use Rattle.peer_core.specs.Acts.{Act, OfActs}
use Rattle.http.specs.Request.{head_of}
use Rattle.http.specs.declared.request.Request.{Request}
use Rattle.http_header.specs.HeaderMap.{ContainsKey}
use Rattle.http_server.specs.declared.response.Response.{Response}
use Rattle.http_server.specs.Response.{IsResponse}
use Rattle.agent_core.specs.declared.actions.Action.{Action}
use Rattle.agent_core.specs.declared.refusals.Refusal.{Refusal}
use Rattle.agent_api.specs.Performing.{Declines, Outcome, Performs}
use Rattle.agent_http.specs.Replies.{ShowsRefusal, ShowsReply}
use Rattle.agent_http.specs.Requests.{AsksFor, IsRefused, limit_for}
use Rattle.agent_http.specs.declared.responses.Form.{Form}

-- a response of this form shows an outcome
abbrev pub ShowsOutcome : Outcome → Form → Response → Type 0
ShowsOutcome (Ok reply) form response = ShowsReply reply form response
ShowsOutcome (Err refusal) form response = ShowsRefusal refusal form response

-- a response to a request shows an outcome, in some form: a refusal is JSON only if the request says what it accepts
abbrev pub ShowsTo : Request (List ℕ) → Outcome → Response → Type 0
ShowsTo request outcome response =
    (form : Form) × (IsTrue form.is_json → ContainsKey (head_of request).headers (codes "accept")) × ShowsOutcome outcome form response

-- an action is performed with this limit of its wait, if there is one; or it is refused for a limit that is malformed, and the node is not called
abbrev pub PerformsBy : Result (Option ℕ) Refusal → ℕ → ℕ → Action → Outcome → OfActs Sha256Hash
PerformsBy (Ok limit) own replicas asked = Performs limit own replicas asked
PerformsBy (Err why) own replicas asked = Declines why

-- the action that a request asks for is performed, with this outcome; or the request is refused, and the node is not called
abbrev pub Settles : ℕ → ℕ → Option (List ℕ) → Request (List ℕ) → Outcome → OfActs Sha256Hash
Settles own replicas field request outcome acts =
    ((asked : Action) × AsksFor field request asked × PerformsBy (limit_for request asked) own replicas asked outcome acts)
    ⊎ ((refusal : Refusal) × IsRefused field request refusal × Declines refusal outcome acts)

-- A response answers a request at an agent that states this address and this many replicas, and that passes any request of a key on, which a field
-- of this name may name, or does not, after these calls of its node: it shows the outcome or, out of memory, has a status alone.
pub record IsAnswered (own replicas : ℕ) (field : Option (List ℕ)) (request : Request (List ℕ)) (response : Response) (acts : List (Act Sha256Hash)) : Type 0 where
  pub outcome : Outcome
  pub settled : Settles own replicas field request outcome acts
  pub shown : ShowsTo request outcome response ⊎ IsResponse 503 [] [] response
