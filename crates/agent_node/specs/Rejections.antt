-- What is refused.
use Rattle.std.specs.Prelude.{Option, Some, None, Result, Ok, Err}
use Rattle.message_core.specs.declared.kinds.Reason.{Reason}
use Rattle.message_core.specs.declared.messages.Content.{Content}
use Rattle.message_core.specs.declared.messages.Content.TheVariants.{Refused}
use Rattle.message_core.specs.declared.messages.Message.{Message}
use Rattle.peer_core.specs.declared.errors.LinkError.{LinkError}

-- the reason of a content that is a refusal
abbrev pub reason_in : Content → Option Reason
reason_in (Refused reason) = Some reason
reason_in other = None

-- the reason of an answer that is a refusal
abbrev pub reason_of : Result Message LinkError → Option Reason
reason_of (Ok message) = reason_in message.content
reason_of (Err error) = None
