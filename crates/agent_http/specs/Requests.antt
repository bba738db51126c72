-- What a request over HTTP asks for, and the refusals that fit it.
use Rattle.std.specs.Prelude.{◌≡◌, ◌≢◌, ◌⊎◌, cond, List, ℕ, [], ◌∷◌, bytes_eq, codes, IsTrue, Option, Some, None, is_some, Result, Ok, Err}
use Rattle.http.specs.Request.{body_of, head_of}
use Rattle.http.specs.declared.request.Request.{Request}
use Rattle.http_header.specs.FieldValue.{FieldValue, is_visible_text}
use Rattle.http_header.specs.HeaderMap.{ContainsKey, get_all}
use Rattle.http_uri.specs.Uri.{uri_path, uri_query}
use Rattle.agent_core.specs.Requests.{asked, key_text, wait_of}
use Rattle.agent_core.specs.declared.actions.Action.{Action}
use Rattle.agent_core.specs.declared.actions.Action.TheVariants as action
use Rattle.agent_core.specs.declared.refusals.Part.{Part}
use Rattle.agent_core.specs.declared.refusals.Part.TheVariants.{KeyField, WaitField}
use Rattle.agent_core.specs.declared.refusals.Refusal.{Refusal}
use Rattle.agent_core.specs.declared.refusals.Refusal.TheVariants.{CrossSite, Malformed, Memory}
use Rattle.agent_http.specs.Passing.{IsNotPassed, IsPassed}

-- the method by which a request is answered: a HEAD as a GET (RFC 9110, section 9.3.2)
abbrev pub answered_as : List ℕ → List ℕ
answered_as method = cond (bytes_eq method (codes "HEAD")) (codes "GET") method

-- the action that a request asks for, or what is wrong with it
abbrev pub asked_by : Request (List ℕ) → Result Action Refusal
asked_by request = asked (answered_as (head_of request).method) (uri_path (head_of request).uri) (uri_query (head_of request).uri) (body_of request)

-- a page of another site may have made a browser send it: it is to change something, and names an origin
abbrev pub IsCrossSite : Request (List ℕ) → Type 0
IsCrossSite request = (answered_as (head_of request).method ≢ codes "GET") × ContainsKey (head_of request).headers (codes "origin")

-- A refusal fits what was asked for: it says what is wrong with the request, or that memory ran out for it.
abbrev pub Refuses : Result Action Refusal → Refusal → Type 0
Refuses (Err wrong) refusal = (refusal ≡ wrong) ⊎ (refusal ≡ Memory)
Refuses (Ok action) refusal = refusal ≡ Memory

-- a request to the agent itself may be refused so: as that of a page of another site, or else as fits what it asks for
abbrev pub IsRefusedHere : Request (List ℕ) → Refusal → Type 0
IsRefusedHere request refusal = (IsCrossSite request × (refusal ≡ CrossSite)) ⊎ (¬ (IsCrossSite request) × Refuses (asked_by request) refusal)

-- a request to the agent itself is of no page of another site, and asks for this action
abbrev pub AsksHere : Request (List ℕ) → Action → Type 0
AsksHere request action = ¬ (IsCrossSite request) × (asked_by request ≡ Ok action)

-- the text of a field by its values: none without one, and this part is malformed if there are two, or the one is not visible ASCII, spaces and tabs
abbrev pub field_text : Part → List FieldValue → Result (Option (List ℕ)) Refusal
field_text part [] = Ok None
field_text part (value ∷ []) = cond (is_visible_text value.bytes) (Ok (Some value.bytes)) (Err (Malformed part))
field_text part more = Err (Malformed part)

-- the limit that the text of a field sets to a request's wait, in milliseconds
abbrev pub limit_by : Result (Option (List ℕ)) Refusal → Result (Option ℕ) Refusal
limit_by (Ok text) = wait_of text
limit_by (Err why) = Err why

-- the limit that a request sets to its wait, in milliseconds
abbrev pub limit_of : Request (List ℕ) → Result (Option ℕ) Refusal
limit_of request = limit_by (field_text WaitField (get_all (head_of request).headers (codes "x-ringpop-wait")))

-- the limit of the wait of the action that a request asks for: only one of a key waits
abbrev pub limit_for : Request (List ℕ) → Action → Result (Option ℕ) Refusal
limit_for request (action.Handle key body) = limit_of request
limit_for request (action.Pass key outgoing is_repeatable) = limit_of request
limit_for request other = Ok None

-- the text that encodes a key, by the text of a field, if there is one, or else by a path
abbrev pub key_by : Result (Option (List ℕ)) Refusal → List ℕ → Result (Option (List ℕ)) Refusal
key_by (Ok field) path = Ok (key_text path field)
key_by (Err why) path = Err why

-- the text that encodes the key of a request, if any request of a key is passed on, which the name of a field says, and it is one
abbrev pub passed_key : Option (List ℕ) → Request (List ℕ) → Result (Option (List ℕ)) Refusal
passed_key None request = Ok None
passed_key (Some name) request = key_by (field_text KeyField (get_all (head_of request).headers name)) (uri_path (head_of request).uri)

-- the path of a request is that of a key
abbrev pub IsAtKey : Request (List ℕ) → Type 0
IsAtKey request = IsTrue (is_some (key_text (uri_path (head_of request).uri) None))

-- a request is one of a key, by its path or by the field of this name
abbrev pub IsOfKey : Option (List ℕ) → Request (List ℕ) → Type 0
IsOfKey None request = IsAtKey request
IsOfKey (Some name) request = ContainsKey (head_of request).headers name ⊎ IsAtKey request

-- a request may be refused so, by the text that encodes its key, if it is to be passed on
abbrev pub IsRefusedBy : Result (Option (List ℕ)) Refusal → Request (List ℕ) → Refusal → Type 0
IsRefusedBy (Ok None) request refusal = IsRefusedHere request refusal
IsRefusedBy (Ok (Some encoded)) request refusal = IsNotPassed encoded request refusal
IsRefusedBy (Err why) request refusal = refusal ≡ why

-- a request asks for this action, by the text that encodes its key, if it is to be passed on
abbrev pub AsksBy : Result (Option (List ℕ)) Refusal → Request (List ℕ) → Action → Type 0
AsksBy (Ok None) request action = AsksHere request action
AsksBy (Ok (Some encoded)) request action = IsPassed encoded request action
AsksBy (Err why) request action = ⊥

-- a request may be refused so: as one that is not passed on, if any request of a key is and it is one, or else as one to the agent itself
abbrev pub IsRefused : Option (List ℕ) → Request (List ℕ) → Refusal → Type 0
IsRefused field request = IsRefusedBy (passed_key field request) request

-- a request asks for this action: it is passed on, if any request of a key is and it is one, or else it is one to the agent itself
abbrev pub AsksFor : Option (List ℕ) → Request (List ℕ) → Action → Type 0
AsksFor field request = AsksBy (passed_key field request) request
