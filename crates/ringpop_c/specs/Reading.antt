-- The content of a line: its kind, its source, and the target that it asks to ping or reports on.
use Rattle.std.specs.Prelude.{◌≡◌, ◌⊎◌, ℕ, Bool, List}
use Rattle.change_core.specs.Address.{ip_of, port_of}
use Rattle.message_core.specs.declared.messages.Content.{Content}
use Rattle.message_core.specs.declared.messages.Content.TheVariants.{Join, Joined, Ping, Ack, PingReq, PingReqAck, Forward, Reply, NotOwner, Refused}
use Rattle.message_core.specs.declared.messages.Message.{Message}
use Rattle.wire_json.specs.Lines.{IsLine}
use Rattle.wire_json.specs.Messages.{MessageForm}
use Rattle.ringpop_c.specs.declared.codes.Code.{Code}
use Rattle.ringpop_c.specs.declared.codes.Code.TheVariants as code
use Rattle.ringpop_c.specs.Codes.{code_number}
use Rattle.ringpop_c.specs.Lines.{IsUnread}

-- an address as the caller has it
pub record Told (address ip port : ℕ) : Type 0 where
  pub ip_is : ip ≡ ip_of address
  pub port_is : port ≡ port_of address

-- the number of a message's kind, as the header has it
abbrev pub kind_number : Content → ℕ
kind_number (Join news) = 0
kind_number (Joined news) = 1
kind_number (Ping news) = 2
kind_number (Ack news) = 3
kind_number (PingReq news target) = 4
kind_number (PingReqAck news target reached) = 5
kind_number (Forward keys body) = 6
kind_number (Reply body) = 7
kind_number NotOwner = 8
kind_number (Refused reason) = 9

-- the kind of a message and its source are written
abbrev pub TellsSource : Message → ℕ → ℕ → ℕ → Code → Type 0
TellsSource message kind ip port answer = (answer ≡ code.Done) × (kind ≡ kind_number message.content) × Told message.source ip port

-- the target that a message asks to ping is written; `Nothing` for any other message
abbrev pub TellsTarget : Content → ℕ → ℕ → Code → Type 0
TellsTarget (PingReq news target) ip port answer = (answer ≡ code.Done) × Told target ip port
TellsTarget other ip port answer = answer ≡ code.Nothing

-- the target of a message's report, and whether it was reached; `Nothing` for any other message
abbrev pub TellsReached : Content → ℕ → ℕ → Bool → Code → Type 0
TellsReached (PingReqAck news target reached) ip port told answer = (answer ≡ code.Done) × Told target ip port × (told ≡ reached)
TellsReached other ip port told answer = answer ≡ code.Nothing

-- the output of a reader for the message of a line, or the code of the line's error
abbrev pub IsRead : (Message → Code → Type 0) → List ℕ → Code → Type 0
IsRead tells line answer = ((message : Message) × IsLine (λ v. MessageForm v message) line × tells message answer) ⊎ IsUnread line answer

-- the same of a code by its number
abbrev pub ReadsLine : (Message → Code → Type 0) → List ℕ → ℕ → Type 0
ReadsLine tells line number = (answer : Code) × (number ≡ code_number answer) × IsRead tells line answer
