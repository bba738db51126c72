-- The status, the word, the line of text and the JSON of each refusal, and the content types.
use Rattle.std.specs.Prelude.{ℕ, ◌==◌, ◌&&◌, Bool, cond, Option, Some, None, List, [], ◌∷◌, ◌++◌, codes, decimal, bytes_eq}
use Rattle.agent_core.specs.declared.verbs.Verb.TheVariants.{Get, Post, Both}
use Rattle.agent_core.specs.declared.refusals.Failure.{Failure}
use Rattle.agent_core.specs.declared.refusals.Failure.TheVariants as failure
use Rattle.agent_core.specs.declared.refusals.KeyFault.{KeyFault}
use Rattle.agent_core.specs.declared.refusals.KeyFault.TheVariants as fault
use Rattle.agent_core.specs.declared.refusals.Part.{Part}
use Rattle.agent_core.specs.declared.refusals.Part.TheVariants.{Key, Count, Body, Keys, NotMine, After, Wait, Level, OwnerQuery, OwnersQuery, RingQuery, KeyField, WaitField}
use Rattle.agent_core.specs.declared.refusals.Refusal.{Refusal}
use Rattle.agent_core.specs.declared.refusals.Refusal.TheVariants as refusal
use Rattle.message_core.specs.declared.kinds.Reason.{Reason}
use Rattle.message_core.specs.declared.kinds.Reason.TheVariants as reason
use Rattle.agent_core.specs.declared.answers.Kind.{Kind}
use Rattle.agent_core.specs.declared.answers.Kind.TheVariants.{Text, Json, Html}

-- the status code of HTTP (RFC 9110, section 15)
abbrev pub status_of : Refusal → ℕ
status_of (refusal.Malformed part) = 400
status_of (refusal.BadKey place why) = 400
status_of refusal.CrossSite = 403
status_of refusal.NotFound = 404
status_of (refusal.BadMethod verb) = 405
status_of refusal.AlreadyLeft = 409
status_of refusal.NotLeft = 409
status_of refusal.Exhausted = 409
status_of refusal.LongBody = 413
status_of refusal.ManyKeys = 413
status_of refusal.LongRequest = 413
status_of refusal.NotPassed = 501
status_of refusal.ApplicationFailed = 502
status_of (refusal.Unanswered why) = 502
status_of refusal.ApplicationDown = 503
status_of refusal.NotJoined = 503
status_of (refusal.JoinRefused why) = 503
status_of refusal.HasLeft = 503
status_of refusal.ApplicationAwaited = 503
status_of refusal.CannotAccept = 503
status_of refusal.NoRounds = 503
status_of refusal.Nobody = 503
status_of refusal.Busy = 503
status_of refusal.ManyQuestions = 503
status_of (refusal.OwnerBusy owner) = 503
status_of refusal.Spent = 503
status_of refusal.Memory = 503
status_of refusal.OwnerSilent = 504
status_of refusal.AnswerLost = 504

-- the text of a refusal for a failure of the application
abbrev pub failure_text : Failure → List ℕ
failure_text failure.NotAccepted = codes "the owner's application accepts no connection"
failure_text failure.HungUp = codes "the owner's application hung up before it answered"
failure_text failure.NoAnswer = codes "no whole answer of the owner's application came"
failure_text failure.BadAnswer = codes "bad answer of the owner's application: not HTTP/1, not UTF-8, too long or of a status not 200 to 599"

-- the text of a refusal for a part of the request
abbrev pub part_text : Part → List ℕ
part_text Key = codes "bad key: not 1 to 1024 bytes of UTF-8"
part_text Count = codes "bad count: not n=1 to n=4096"
part_text Body = codes "bad body: not UTF-8"
part_text Keys = codes "bad keys: not a JSON list of texts"
part_text NotMine = codes "bad not-mine: not not-mine=1"
part_text After = codes "bad after: not the digest of a ring, 64 digits of 0 to 9 and a to f"
part_text Wait = codes "bad wait: not wait=1 to wait=60, in seconds"
part_text Level = codes "bad level: not level=off, level=error, level=warn, level=info or level=debug"
part_text OwnerQuery = codes "bad query: this path takes n=COUNT alone"
part_text OwnersQuery = codes "bad query: this path takes n=COUNT and not-mine=1, each once"
part_text RingQuery = codes "bad query: this path takes after=DIGEST and, only with it, wait=SECONDS, each once"
part_text KeyField = codes "bad key field: it comes twice, or is not ASCII"
part_text WaitField = codes "bad X-Ringpop-Wait: not one number from 1 to 60000, in milliseconds"

-- the text of a refusal for a key of many
abbrev pub fault_text : KeyFault → List ℕ
fault_text fault.NotText = codes "not a text"
fault_text fault.NotUtf8 = codes "not UTF-8"
fault_text fault.Empty = codes "empty"
fault_text fault.Long = codes "more than 1024 bytes"

-- the text of a refused join
abbrev pub join_text : Reason → List ℕ
join_text reason.Memory = codes "a host refused this node: memory"
join_text reason.Full = codes "a host refused this node: full"
join_text reason.Exhausted = codes "a host refused this node: exhausted"
join_text reason.Diverged = codes "a host refused this node"
join_text reason.Nobody = codes "a host refused this node"
join_text reason.Failed = codes "a host refused this node"
join_text reason.Unexpected = codes "a host refused this node"
join_text reason.Malformed = codes "a host refused this node: malformed"

-- the text of a refusal; of a key of many it is the fault alone
abbrev pub text_of : Refusal → List ℕ
text_of (refusal.Malformed part) = part_text part
text_of (refusal.BadKey place why) = fault_text why
text_of refusal.CrossSite = codes "refused: asked by a page of another site"
text_of refusal.NotFound = codes "nothing at this path"
text_of (refusal.BadMethod Get) = codes "bad method: this path takes GET"
text_of (refusal.BadMethod Post) = codes "bad method: this path takes POST"
text_of (refusal.BadMethod Both) = codes "bad method: this path takes GET and POST"
text_of refusal.AlreadyLeft = codes "the node has left already"
text_of refusal.NotLeft = codes "the node has not left"
text_of refusal.Exhausted = codes "no incarnation is left"
text_of refusal.LongBody = codes "bad body: more than 131072 bytes"
text_of refusal.ManyKeys = codes "bad keys: more than 4096"
text_of refusal.LongRequest = codes "bad body: more than 524288 bytes"
text_of refusal.NotPassed = codes "not passed on: a CONNECT, or a request with Upgrade"
text_of refusal.ApplicationFailed = codes "the application failed"
text_of (refusal.Unanswered why) = failure_text why
text_of refusal.ApplicationDown = codes "the application does not answer"
text_of refusal.NotJoined = codes "no host has answered"
text_of (refusal.JoinRefused why) = join_text why
text_of refusal.HasLeft = codes "the node has left"
text_of refusal.ApplicationAwaited = codes "the node is not in the ring, since its application accepts no connection"
text_of refusal.CannotAccept = codes "no connection can be accepted"
text_of refusal.NoRounds = codes "no round of gossip ended in the last ten seconds"
text_of refusal.Nobody = codes "nobody serves"
text_of refusal.Busy = codes "too many requests wait"
text_of refusal.ManyQuestions = codes "too many questions wait: 1000, or half of the connections; ask again after a second, or without wait"
text_of (refusal.OwnerBusy owner) =
    codes "too many requests wait for the owner of this key: send it again later; keys of other owners are answered"
text_of refusal.Spent = codes "the node takes no more calls"
text_of refusal.Memory = codes "out of memory"
text_of refusal.OwnerSilent = codes "the owner does not answer"
text_of refusal.AnswerLost = codes "the answer was lost: the owner may have performed the request"

-- what a refusal says: its text, and which of many keys is bad, by its place among them, from 1
abbrev pub message_of : Refusal → List ℕ
message_of (refusal.BadKey place why) = codes "bad key " ++ (decimal place ++ (codes ": " ++ fault_text why))
message_of refused = text_of refused

-- that as a line
abbrev pub line_of : Refusal → List ℕ
line_of refused = message_of refused ++ 10 ∷ []

-- the word of a refusal, another for each
abbrev pub word_of : Refusal → List ℕ
word_of (refusal.Malformed Key) = codes "bad-key"
word_of (refusal.BadKey place why) = codes "bad-listed-key"
word_of (refusal.Malformed Count) = codes "bad-count"
word_of (refusal.Malformed Body) = codes "bad-body"
word_of (refusal.Malformed Keys) = codes "bad-keys"
word_of (refusal.Malformed NotMine) = codes "bad-not-mine"
word_of (refusal.Malformed After) = codes "bad-after"
word_of (refusal.Malformed Wait) = codes "bad-wait"
word_of (refusal.Malformed Level) = codes "bad-level"
word_of (refusal.Malformed OwnerQuery) = codes "bad-owner-query"
word_of (refusal.Malformed OwnersQuery) = codes "bad-owners-query"
word_of (refusal.Malformed RingQuery) = codes "bad-ring-query"
word_of (refusal.Malformed KeyField) = codes "bad-key-field"
word_of (refusal.Malformed WaitField) = codes "bad-wait-field"
word_of refusal.CrossSite = codes "cross-site"
word_of refusal.NotFound = codes "not-found"
word_of (refusal.BadMethod verb) = codes "bad-method"
word_of refusal.AlreadyLeft = codes "already-left"
word_of refusal.NotLeft = codes "not-left"
word_of refusal.Exhausted = codes "no-incarnation"
word_of refusal.LongBody = codes "long-body"
word_of refusal.ManyKeys = codes "many-keys"
word_of refusal.LongRequest = codes "long-request"
word_of refusal.NotPassed = codes "not-passed"
word_of refusal.ApplicationFailed = codes "application-failed"
word_of (refusal.Unanswered failure.NotAccepted) = codes "application-not-accepting"
word_of (refusal.Unanswered failure.HungUp) = codes "application-hung-up"
word_of (refusal.Unanswered failure.NoAnswer) = codes "application-unresponsive"
word_of (refusal.Unanswered failure.BadAnswer) = codes "application-bad-answer"
word_of refusal.ApplicationDown = codes "application-down"
word_of refusal.NotJoined = codes "not-joined"
word_of (refusal.JoinRefused why) = codes "join-refused"
word_of refusal.HasLeft = codes "has-left"
word_of refusal.ApplicationAwaited = codes "application-awaited"
word_of refusal.CannotAccept = codes "cannot-accept"
word_of refusal.NoRounds = codes "no-rounds"
word_of refusal.Nobody = codes "no-member-serves"
word_of refusal.Busy = codes "busy"
word_of refusal.ManyQuestions = codes "many-questions"
word_of (refusal.OwnerBusy owner) = codes "owner-busy"
word_of refusal.Spent = codes "no-calls"
word_of refusal.Memory = codes "memory"
word_of refusal.OwnerSilent = codes "owner-unresponsive"
word_of refusal.AnswerLost = codes "answer-lost"

-- a refusal as JSON, its word and what it says, and a newline
abbrev pub json_of : Refusal → List ℕ
json_of refused = codes "{\"error\":\"" ++ (word_of refused ++ (codes "\",\"message\":\"" ++ (message_of refused ++ (codes "\"}" ++ 10 ∷ []))))

-- whether an answer with this status and this body is a refusal's
abbrev pub is_answer : ℕ → List ℕ → Refusal → Bool
is_answer status body refused = (status == status_of refused) && bytes_eq body (line_of refused)

-- the refusal that an agent sends in place of an answer of its application, if an answer with this status and this body is one
abbrev pub sent : ℕ → List ℕ → Option Refusal
sent status body =
    cond (is_answer status body (refusal.Unanswered failure.NotAccepted)) (Some (refusal.Unanswered failure.NotAccepted))
    (cond (is_answer status body (refusal.Unanswered failure.HungUp)) (Some (refusal.Unanswered failure.HungUp))
    (cond (is_answer status body (refusal.Unanswered failure.NoAnswer)) (Some (refusal.Unanswered failure.NoAnswer))
    (cond (is_answer status body (refusal.Unanswered failure.BadAnswer)) (Some (refusal.Unanswered failure.BadAnswer))
    (cond (is_answer status body refusal.Busy) (Some refusal.Busy) None))))

-- the content type (RFC 9110, section 8.3)
abbrev pub kind_name : Kind → List ℕ
kind_name Text = codes "text/plain; charset=utf-8"
kind_name Json = codes "application/json"
kind_name Html = codes "text/html; charset=utf-8"
