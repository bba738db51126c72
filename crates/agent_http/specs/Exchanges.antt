-- One request to the application, and its answer.
use Rattle.std.specs.Prelude.{◌≡◌, ◌⊎◌, ◌&&◌, ◌++◌, ⊤, ℕ, Bool, true, false, cond, map, nat_eq, nat_le, List, [], length, bytes_eq, codes}
use Rattle.std.specs.Char.{to_ascii_lowercase}
use Rattle.std.specs.List.{starts_with}
use Rattle.std.specs.declared.io.ErrorKind.{ErrorKind}
use Rattle.std.specs.declared.io.ErrorKind.TheVariants.{BrokenPipe, ConnectionReset}
use Rattle.httparse.specs.Spans.{span_bytes}
use Rattle.httparse.specs.declared.spans.HeaderSpan.{HeaderSpan}
use Rattle.httparse.specs.declared.spans.Span.{Span}
use Rattle.http1.specs.declared.conn.Event.{Event}
use Rattle.http1.specs.declared.conn.Event.TheVariants.{Data}
use Rattle.agent_http.specs.declared.exchanges.Answer.{Answer}
use Rattle.agent_http.specs.declared.exchanges.Step.{Step}
use Rattle.agent_http.specs.declared.exchanges.Step.TheVariants.{Next, Read, Whole, Ended}
use Rattle.agent_core.specs.declared.refusals.Failure.{Failure}
use Rattle.agent_core.specs.declared.refusals.Failure.TheVariants.{BadAnswer, HungUp, NoAnswer}

-- the failure by the kind of the connection's error: the application hung up if it broke the connection before a byte of the answer
abbrev pub failure_of : ErrorKind → Bool → Failure
failure_of _ true = NoAnswer
failure_of BrokenPipe false = HungUp
failure_of ConnectionReset false = HungUp
failure_of _ false = NoAnswer

-- the failures of an answer that is read: it did not come, or not whole, or it is not one of HTTP/1 that is short enough
abbrev pub IsOfAnswer : Failure → Type 0
IsOfAnswer failure = (failure ≡ HungUp) ⊎ ((failure ≡ NoAnswer) ⊎ (failure ≡ BadAnswer))

-- the part of bytes that a span covers; none if it does not lie in them
abbrev pub part_of : List ℕ → Span → List ℕ
part_of unread span = cond (nat_le span.start span.end && nat_le span.end (length unread)) (span_bytes unread span) []

-- whether a field gives JSON as the content type
abbrev pub says_json : List ℕ → HeaderSpan → Bool
says_json unread field =
    bytes_eq (map to_ascii_lowercase (part_of unread field.name)) (codes "content-type")
    && starts_with nat_eq (part_of unread field.value) (codes "application/json")

-- the body of an answer after an event
abbrev pub body_after : {H : Type 0} → List ℕ → Event H → List ℕ → List ℕ
body_after unread (Data span) body = body ++ part_of unread span
body_after unread other body = body

-- nothing of an answer came, unless there may be another event after the step
abbrev pub IsKept : Step → Answer → Answer → Type 0
IsKept Next old new = ⊤
IsKept Read old new = new ≡ old
IsKept Whole old new = new ≡ old
IsKept Ended old new = new ≡ old
