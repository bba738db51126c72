-- The answers that a node may get from another, and how they are read.
use Rattle.std.specs.Prelude.{◌≡◌, ◌≢◌, ◌==◌, ℕ, Bool, Option, Some, None, Result, Ok, Err, if◌then◌else◌}
use Rattle.change_core.specs.declared.addresses.Address.{Address}
use Rattle.message_core.specs.declared.errors.WireError.{WireError}
use Rattle.message_core.specs.declared.errors.WireError.TheVariants as wire
use Rattle.message_core.specs.declared.kinds.Kind.TheVariants as kind
use Rattle.message_core.specs.declared.messages.Content.{Content}
use Rattle.message_core.specs.declared.messages.Content.TheVariants as content
use Rattle.message_core.specs.declared.messages.Message.{Message}
use Rattle.message_core.specs.Messages.{kind_of}
use Rattle.peer_core.specs.declared.errors.LinkError.{LinkError}
use Rattle.peer_core.specs.declared.errors.LinkError.TheVariants.{Io, Closed, Wire, Spent, Memory}
use Rattle.peer_core.specs.declared.hearing.Heard.{Heard}
use Rattle.peer_core.specs.declared.hearing.Heard.TheVariants as heard

-- the answers that may come from an address to a message, errors included; only a call of a link can show one
abbrev pub MayAnswer : Type 1
MayAnswer = Address → Message → Result Message LinkError → Type 0

-- any answer may come: nothing is known of what a peer says
abbrev pub any_answer : MayAnswer
any_answer to message answer = Unit {0}

-- one call of a link, from its state before to that after: an address, a message, and the answer
abbrev pub Went : Type 0 → Type 1
Went L = Address → Message → Result Message LinkError → L → L → Type 0

-- how many failures of the link an answer counts for
abbrev pub failures_in : Result Message LinkError → ℕ
failures_in (Ok message) = 0
failures_in (Err Io) = 1
failures_in (Err Closed) = 1
failures_in (Err (Wire fault)) = 0
failures_in (Err Spent) = 0
failures_in (Err Memory) = 0

-- An error of a line is a link's `Wire` if it is another than that the line could not be read or out of memory.
abbrev pub IsNamed : LinkError → Type 0
IsNamed (Wire fault) = (fault ≢ wire.Io) × (fault ≢ wire.Memory)
IsNamed Io = Unit {0}
IsNamed Closed = Unit {0}
IsNamed Spent = Unit {0}
IsNamed Memory = Unit {0}

-- an error of a line as a link names it
abbrev pub fault_named : WireError → LinkError
fault_named wire.Io = Io
fault_named wire.Memory = Memory
fault_named wire.LineTooLong = Wire wire.LineTooLong
fault_named wire.BadJson = Wire wire.BadJson
fault_named wire.NotObject = Wire wire.NotObject
fault_named wire.UnknownKind = Wire wire.UnknownKind
fault_named (wire.MissingField field) = Wire (wire.MissingField field)
fault_named (wire.BadField field) = Wire (wire.BadField field)
fault_named wire.TooMany = Wire wire.TooMany

-- an Ack whose source is the address
abbrev pub IsAckOf : Address → Message → Type 0
IsAckOf a message = (message.source ≡ a) × (kind_of message.content ≡ kind.Ack)

-- a Joined, from any source
abbrev pub IsJoined : Message → Type 0
IsJoined message = kind_of message.content ≡ kind.Joined

-- whether the target was reached, as a PingReqAck about it says
abbrev pub word_on : Address → Content → Option Bool
word_on a (content.PingReqAck news target reached) = if target == a then Some reached else None
word_on a other = None

-- a PingReqAck about the target
abbrev pub TellsOf : Address → Message → Type 0
TellsOf a message = word_on a message.content ≢ None

-- another answer than a wanted one, and not out of memory
abbrev pub IsOther : (Message → Type 0) → Result Message LinkError → Type 0
IsOther Wanted (Ok message) = ¬ Wanted message
IsOther Wanted (Err error) = error ≢ Memory

-- the result of an answer: the wanted one, another, or that the link ran out of memory
abbrev pub IsHeard : (Message → Type 0) → Result Message LinkError → Heard → Type 0
IsHeard Wanted answer (heard.Answer message) = (answer ≡ Ok message) × Wanted message
IsHeard Wanted answer heard.Other = IsOther Wanted answer
IsHeard Wanted answer heard.OutOfMemory = answer ≡ Err Memory
