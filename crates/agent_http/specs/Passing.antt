-- A request of a key that is passed on whole, and the refusals that fit it.
use Rattle.std.specs.Prelude.{◌≡◌, ◌⊎◌, ◌↔◌, ◌≤◌, ◌<◌, ◌||◌, ◌==◌, ℕ, Bool, true, IsTrue, cond, map, List, [], ◌++◌, length, Option, Some, None, Ok, Err, bytes_eq, codes}
use Rattle.std.specs.Char.{to_ascii_lowercase}
use Rattle.http.specs.Request.{body_of, head_of}
use Rattle.http.specs.declared.request.Request.{Request}
use Rattle.http_header.specs.HeaderMap.{ContainsKey}
use Rattle.http_uri.specs.Uri.{uri_path, uri_query}
use Rattle.http_uri.specs.declared.uri.Uri.{Uri}
use Rattle.agent_core.specs.Parts.{joined, text_of_body}
use Rattle.agent_core.specs.Passing.{flat, is_of_connection, is_repeatable, request_parts}
use Rattle.agent_core.specs.Requests.{after, key_in}
use Rattle.agent_core.specs.declared.actions.Action.{Action}
use Rattle.agent_core.specs.declared.actions.Action.TheVariants.{Pass}
use Rattle.agent_core.specs.declared.passing.Outgoing.{Outgoing}
use Rattle.agent_core.specs.declared.passing.Outgoing.TheVariants.{Body, Whole}
use Rattle.agent_core.specs.declared.refusals.Refusal.{Refusal}
use Rattle.agent_core.specs.declared.refusals.Refusal.TheVariants.{LongRequest, Memory, NotPassed}

-- a request is a CONNECT, or asks for an upgrade of the connection
abbrev pub IsTunnel : Request (List ℕ) → Type 0
IsTunnel request = ((head_of request).method ≡ codes "CONNECT") ⊎ ContainsKey (head_of request).headers (codes "upgrade")

-- a query with its mark, if there is one
abbrev pub marked_query : Option (List ℕ) → List ℕ
marked_query None = []
marked_query (Some query) = codes "?" ++ query

-- the target of a request: its path and its query
abbrev pub target_of : Uri → List ℕ
target_of uri = uri_path uri ++ marked_query (uri_query uri)

-- a request is a POST at the path of a key, which this text encodes, without a query
abbrev pub IsAlone : List ℕ → Request (List ℕ) → Type 0
IsAlone encoded request =
    ((head_of request).method ≡ codes "POST") × (after (codes "/keys/") (uri_path (head_of request).uri) ≡ Some encoded)
    × (uri_query (head_of request).uri ≡ None)

-- whether a content type is that of plain text in UTF-8
abbrev pub is_plain : List ℕ → Bool
is_plain kind =
    bytes_eq (map to_ascii_lowercase kind) (codes "text/plain") || bytes_eq (map to_ascii_lowercase kind) (codes "text/plain; charset=utf-8")

-- whether a field, by its name in lower case and its value, is one that the POST of a body alone as plain text has anyway, or one for a connection alone
abbrev pub is_usual : List ℕ → List ℕ → Bool
is_usual name value =
    cond (bytes_eq name (codes "host") || (bytes_eq name (codes "content-length") || (bytes_eq name (codes "user-agent") || bytes_eq name (codes "accept-encoding"))))
    true
    (cond (bytes_eq name (codes "accept")) (bytes_eq value (codes "*/*"))
    (cond (bytes_eq name (codes "content-type")) (is_plain value) (is_of_connection name)))

-- a list, as the value of a field is, with one more element, unless that is empty
abbrev pub listed : List ℕ → List ℕ → List ℕ
listed list element = cond ((length list == 0) || (length element == 0)) (list ++ element) ((list ++ codes ", ") ++ element)

-- bytes are those of the names and the values of fields, one part after the other
abbrev pub AreFields : List ℕ → Type 0
AreFields bytes = (fields : List (List ℕ × List ℕ)) × (bytes ≡ joined (flat fields))

-- A request whose key a text encodes goes to the key's owner so: as its parts, which are the method, the target, the body, and the names and the values of
-- fields; or as the text of the body of a POST at the key's path.
abbrev pub HasRequest : List ℕ → Outgoing → Request (List ℕ) → Type 0
HasRequest encoded (Whole bytes) request =
    (fields : List (List ℕ × List ℕ))
    × (bytes.items ≡ joined (request_parts (head_of request).method (target_of (head_of request).uri) (body_of request) fields))
HasRequest encoded (Body text) request = IsAlone encoded request × (text ≡ text_of_body (body_of request))

-- a request may be performed twice, by its method or since it says so
abbrev pub IsRepeatable : Request (List ℕ) → Type 0
IsRepeatable request =
    IsTrue (is_repeatable (head_of request).method) ⊎ ContainsKey (head_of request).headers (codes "idempotency-key")

-- A request whose key a text encodes is passed on: it is no tunnel, its body is not too long, and it goes out so.
pub record IsPassed (encoded : List ℕ) (request : Request (List ℕ)) (action : Action) : Type 0 where
  pub key : List ℕ
  pub outgoing : Outgoing
  pub is_repeatable : Bool
  pub passes : action ≡ Pass key outgoing is_repeatable
  pub allowed : ¬ (IsTunnel request)
  pub decoded : key_in encoded ≡ Ok key
  pub short : length (body_of request) ≤ 524288
  pub whole : HasRequest encoded outgoing request
  pub repeats : IsTrue is_repeatable ↔ IsRepeatable request

-- a request is not passed on: it is a tunnel; or else the text for its key encodes none, its body is too long, or memory ran out
abbrev pub IsNotPassed : List ℕ → Request (List ℕ) → Refusal → Type 0
IsNotPassed encoded request refusal =
    (IsTunnel request × (refusal ≡ NotPassed))
    ⊎ (¬ (IsTunnel request) × ((key_in encoded ≡ Err refusal) ⊎ (((524288 < length (body_of request)) × (refusal ≡ LongRequest)) ⊎ (refusal ≡ Memory))))
