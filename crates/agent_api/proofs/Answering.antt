-- What answers a request over HTTP.
use Rattle.std.proofs.Common.{◌≡◌, ℕ, false, List, Option, Result, Ok, Err, true≢false}
use Rattle.std.specs.Prelude.{[], ◌⊎◌, OnOk, is_err}
use Rattle.http.specs.declared.request.Request.{Request}
use Rattle.http_server.specs.declared.response.Response.{Response}
use Rattle.http_server.specs.Response.{IsResponse}
use Rattle.agent_api.specs.Answers.{IsAnswered, Settles, ShowsTo}
use Rattle.agent_node.specs.Calling.{Calling, HasMade}
use Rattle.agent_api.specs.Performing.{Outcome}
use Rattle.agent_node.proofs.Made.{made_as}

-- a response that shows the outcome, or a status alone, answers the request
pub answered_by : (own replicas : ℕ) (field : Option (List ℕ)) (request : Request (List ℕ)) (response : Response) (outcome : Outcome) (old new : Calling)
    → HasMade (Settles own replicas field request outcome) old new → ShowsTo request outcome response ⊎ IsResponse 503 [] [] response
    → HasMade (IsAnswered own replicas field request response) old new
answered_by own replicas field request response outcome old new made shown =
    made_as (IsAnswered own replicas field request response) (Settles own replicas field request outcome) old new
    (λ acts settled. record { outcome = outcome; settled = settled; shown = shown }) made

-- what holds where a result is no error
pub shown_if_ok : {T E Q : Type 0} (result : Result T E) → is_err result ≡ false → OnOk result Q → Q
shown_if_ok (Ok value) none shown = shown
shown_if_ok (Err e) none shown = absurd (true≢false none)
