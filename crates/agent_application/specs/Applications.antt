-- The answers of an application, as they go to the node that asked.
use Rattle.std.specs.Prelude.{◌==◌, ℕ, cond, List, []}
use Rattle.message_core.specs.declared.errors.WireError.{WireError}
use Rattle.message_core.specs.declared.errors.WireError.TheVariants as wire
use Rattle.peer_core.specs.Handling.{MayHandle}
use Rattle.peer_core.specs.declared.errors.HandlerFault.{HandlerFault}
use Rattle.peer_core.specs.declared.errors.HandlerFault.TheVariants as fault
use Rattle.std.specs.IoError.{raw_os_error}
use Rattle.reactor.specs.Shortages.{is_short}
use Rattle.agent_core.specs.declared.refusals.Failure.TheVariants.{NotAccepted}
use Rattle.agent_core.specs.declared.refusals.Refusal.{Refusal}
use Rattle.agent_core.specs.declared.refusals.Refusal.TheVariants.{Busy, Unanswered}
use Rattle.agent_application.specs.declared.applications.Fault.{Fault}
use Rattle.agent_application.specs.declared.applications.Fault.TheVariants.{Failed, NotConnected}

-- the handler's error if an answer has no text
abbrev pub fault_of : WireError → HandlerFault
fault_of wire.Memory = fault.Memory
fault_of other = fault.Failed

-- the body of an answer that is passed on: a 205 has none (RFC 9110, section 15.3.6)
abbrev pub body_passed : ℕ → List ℕ → List ℕ
body_passed status body = cond (status == 205) [] body

-- an application may answer anything
abbrev pub AnyHandling : MayHandle
AnyHandling keys body answer = Unit {0}

-- the refusal of a request by why it has no answer: it is one too many where what ran out is this node's
abbrev pub refusal_of : Fault → Refusal
refusal_of (NotConnected error) = cond (is_short (raw_os_error error)) Busy (Unanswered NotAccepted)
refusal_of (Failed failure) = Unanswered failure
