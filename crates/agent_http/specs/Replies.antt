-- The response that shows a reply, or a refusal: its status, its fields in their order, and its body.
use Rattle.std.specs.Prelude.{◌≡◌, ◌⊎◌, ◌≤◌, ◌==◌, ℕ, Bool, cond, map, Option, Some, None, List, [], ◌∷◌, ◌++◌, string_bytes, codes}
use Rattle.std.specs.List.{All}
use Rattle.change_core.specs.Address.{address_text}
use Rattle.change_core.specs.Digest.{digest_digits}
use Rattle.http1.specs.Fields.{Header}
use Rattle.http_header.specs.FieldName.{IsFieldName}
use Rattle.http_header.specs.FieldValue.{IsFieldValue}
use Rattle.http_header.specs.Token.{lowercase}
use Rattle.http_server.specs.declared.response.Response.{Response}
use Rattle.http_server.specs.Response.{IsResponse}
use Rattle.httpdate.specs.Date.{date_text}
use Rattle.httpdate.specs.declared.date.HttpDate.{HttpDate}
use Rattle.base64.specs.GeneralPurpose.{IsBytes}
use Rattle.agent_core.specs.Packs.{unpacked}
use Rattle.agent_core.specs.Parts.{joined}
use Rattle.agent_core.specs.Passing.{answer_parts, answer_text}
use Rattle.agent_core.specs.Refusals.{json_of, kind_name, line_of, sent, status_of, word_of}
use Rattle.agent_core.specs.declared.answers.Kind.{Kind}
use Rattle.agent_core.specs.declared.answers.Kind.TheVariants as kind
use Rattle.agent_core.specs.declared.pages.TheConstants.{PAGE}
use Rattle.agent_core.specs.declared.refusals.Refusal.{Refusal}
use Rattle.agent_core.specs.declared.refusals.Refusal.TheVariants.{BadMethod, OwnerBusy}
use Rattle.agent_core.specs.declared.verbs.Verb.{Verb}
use Rattle.agent_core.specs.declared.verbs.Verb.TheVariants.{Get, Post, Both}
use Rattle.agent_http.specs.declared.replies.Reply.{Reply}
use Rattle.agent_http.specs.declared.replies.Reply.TheVariants.{Handled, Line, Text, Json, Ring, Unchanged, Digest, Page}
use Rattle.agent_http.specs.declared.responses.Form.{Form}

-- the kind of a text that is JSON, or is not: an application's answer, or a refusal
abbrev pub answered_kind : Bool → Kind
answered_kind is_json = cond is_json kind.Json kind.Text

-- the status: that of the owner's answer, or 200
abbrev pub reply_status : Reply → ℕ
reply_status (Handled owner text) = (unpacked text).status
reply_status (Unchanged digest) = 304
reply_status _ = 200

-- the kind of content
abbrev pub reply_kind : Reply → Kind
reply_kind (Handled owner text) = answered_kind (unpacked text).is_json
reply_kind (Line line) = kind.Text
reply_kind (Text text) = kind.Text
reply_kind (Json text) = kind.Json
reply_kind (Ring digest since text) = kind.Json
reply_kind (Unchanged digest) = kind.Json
reply_kind (Digest text) = kind.Text
reply_kind Page = kind.Html

-- the body
abbrev pub reply_body : Reply → List ℕ
reply_body (Handled owner text) = (unpacked text).body
reply_body (Line line) = line.now
reply_body (Text text) = string_bytes text
reply_body (Json text) = string_bytes text
reply_body (Ring digest since text) = string_bytes text
reply_body (Unchanged digest) = []
reply_body (Digest text) = string_bytes text
reply_body Page = PAGE.now

-- a reply with status 200, of this kind and with this body
pub record IsText (content : Kind) (text : List ℕ) (reply : Reply) : Type 0 where
  pub status : reply_status reply ≡ 200
  pub kind : reply_kind reply ≡ content
  pub body : reply_body reply ≡ text

-- the field that says that the connection is closed, if it is
abbrev pub closing : Bool → List Header
closing closes = cond closes ((codes "connection", codes "close") ∷ []) []

-- the field of this name that has a date
abbrev pub dated : List ℕ → HttpDate → List Header
dated name date = (name, date_text date) ∷ []

-- that field, if the date is known
abbrev pub date_field : List ℕ → Option HttpDate → List Header
date_field name None = []
date_field name (Some date) = dated name date

-- the fields of each response: that one, the one that has the present date (RFC 9110, section 6.6.1), and the one that names the kind of content
abbrev pub fields_for : Form → Kind → List Header
fields_for form content = (closing form.closes ++ date_field (codes "date") form.date) ++ (codes "content-type", kind_name content) ∷ []

-- the digits of a digest between quotes
abbrev pub tag_text : List ℕ → List ℕ
tag_text digest = 34 ∷ (digest_digits digest ++ 34 ∷ [])

-- the field that names the digest of the ring
abbrev pub tag_field : List ℕ → List Header
tag_field digest = (codes "etag", tag_text digest) ∷ []

-- the field that has a date since when the ring is this one (RFC 9110, section 8.8.2), if it is known
abbrev pub since_field : Option HttpDate → List Header
since_field since = date_field (codes "last-modified") since

-- the field that names the owner of the key
abbrev pub named_owner : ℕ → List Header
named_owner owner = (codes "x-ringpop-owner", address_text owner) ∷ []

-- the field by which the page of any site may read an answer (the standard Fetch of the WHATWG, section 3.3)
abbrev pub open_field : List Header
open_field = (codes "access-control-allow-origin", codes "*") ∷ []

-- the field that names the owner of the key, if the reply is an answer of the owner, or the digest, if it is about the ring, with since when it is
-- this one, if the ring is shown; the field that lets any page read it, if the reply is the digest of the members
abbrev pub owner_field : Reply → List Header
owner_field (Handled owner text) = named_owner owner
owner_field (Ring digest since text) = tag_field digest.bytes ++ since_field since
owner_field (Unchanged digest) = tag_field digest.bytes
owner_field (Digest text) = open_field
owner_field _ = []

-- a reply with status 200 and a text that the page of any site may read
pub record IsOpenText (text : List ℕ) (reply : Reply) : Type 0 where
  pub shown : IsText kind.Text text reply
  pub readable : owner_field reply ≡ open_field

-- the methods of HTTP that a path with this method takes
abbrev pub allowed_methods : Verb → List ℕ
allowed_methods Get = codes "GET, HEAD"
allowed_methods Post = codes "POST"
allowed_methods Both = codes "GET, HEAD, POST"

-- the field that names the methods of the path, if the refused request had another, or the owner, if too many requests wait for it
abbrev pub refusal_field : Refusal → List Header
refusal_field (BadMethod verb) = (codes "allow", allowed_methods verb) ∷ []
refusal_field (OwnerBusy owner) = named_owner owner
refusal_field _ = []

-- the field of a refusal alone, with its word
abbrev pub word_field : Refusal → List Header
word_field refusal = (codes "x-ringpop-error", word_of refusal) ∷ []

-- the body of a response that shows a refusal: JSON, or its line
abbrev pub refusal_body : Bool → Refusal → List ℕ
refusal_body is_json refusal = cond is_json (json_of refusal) (line_of refusal)

-- the field of a 503: after how many seconds the client may ask again
abbrev pub retry_field : ℕ → List Header
retry_field status = cond (status == 503) ((codes "retry-after", codes "1") ∷ []) []

-- a field of HTTP: it is not so that its name is none, or its value
abbrev pub IsField : Header → Type 0
IsField field = ¬ (¬ (IsFieldName field.0) ⊎ ¬ (IsFieldValue field.1))

-- a field as a response has it, with its name in lower case
abbrev pub lower : Header → Header
lower field = (lowercase field.0, field.1)

-- An answer that was passed on whole, which a text has: its status, its body and its fields.
pub record HasAnswer (text : List ℕ) (status : ℕ) (body : List ℕ) (fields : List Header) : Type 0 where
  pub packed : text ≡ answer_text status body fields
  pub bytes : IsBytes (joined (answer_parts status body fields))
  pub least : 200 ≤ status
  pub greatest : status ≤ 599
  pub names : All IsField fields

-- a response shows the whole answer that a text has, and names the owner; before that it may have a date that the agent gave it (RFC 9110, section 6.6.1)
abbrev pub ShowsWhole : List ℕ → Bool → ℕ → Response → Type 0
ShowsWhole text closes owner response =
    (status : ℕ) × (body : List ℕ) × (fields : List Header) × HasAnswer text status body fields × (date : Option HttpDate)
    × IsResponse status (((closing closes ++ map lower fields) ++ date_field (codes "date") date) ++ named_owner owner) body response

-- a text has no whole answer
abbrev pub HasNoAnswer : List ℕ → Type 0
HasNoAnswer text = (status : ℕ) (body : List ℕ) (fields : List Header) → ¬ (HasAnswer text status body fields)

-- a response shows a reply that is a text of this node, or the answer to a request that was a body alone
abbrev pub ShowsText : Reply → Form → Response → Type 0
ShowsText reply form response =
    IsResponse (reply_status reply) (fields_for form (reply_kind reply) ++ owner_field reply) (reply_body reply) response

-- a response shows a refusal that the owner's agent sent in place of its application's answer, if there is one, or else that answer
abbrev pub ShowsSent : Option Refusal → ℕ → List ℕ → Form → Response → Type 0
ShowsSent None owner text form response = ShowsText (Handled owner text) form response
ShowsSent (Some refusal) owner text form response =
    IsResponse (status_of refusal) ((fields_for form (answered_kind form.is_json) ++ named_owner owner) ++ word_field refusal) (refusal_body form.is_json refusal) response

-- a response shows the answer to a request that was a body alone
abbrev pub ShowsPlain : ℕ → List ℕ → Form → Response → Type 0
ShowsPlain owner text form response = ShowsSent (sent (unpacked text).status (unpacked text).body) owner text form response

-- a response of this form shows a reply
abbrev pub ShowsReply : Reply → Form → Response → Type 0
ShowsReply (Handled owner text) form response =
    ShowsWhole text form.closes owner response ⊎ (HasNoAnswer text × ShowsPlain owner text form response)
ShowsReply reply form response = ShowsText reply form response

-- a response of this form shows a refusal
abbrev pub ShowsRefusal : Refusal → Form → Response → Type 0
ShowsRefusal refusal form response =
    IsResponse (status_of refusal) (((fields_for form (answered_kind form.is_json) ++ word_field refusal) ++ retry_field (status_of refusal)) ++ refusal_field refusal)
    (refusal_body form.is_json refusal) response
