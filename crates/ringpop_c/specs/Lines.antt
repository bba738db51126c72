-- The lines that an export writes and reads.
use Rattle.std.specs.Prelude.{◌≡◌, ◌≢◌, ◌<◌, ◌≤◌, ◌⊎◌, ◌++◌, ℕ, List, length, drop, All}
use Rattle.serde_json.specs.Written.{compact_text}
use Rattle.hash_ring.specs.declared.hash.Sha256Hash.{Sha256Hash}
use Rattle.message_core.specs.declared.errors.WireError.{WireError}
use Rattle.message_core.specs.declared.errors.WireError.TheVariants as wire
use Rattle.message_core.specs.declared.messages.Message.{Message}
use Rattle.wire_json.specs.Lines.{IsLine, Faults, max_line}
use Rattle.wire_json.specs.Messages.{MessageForm, message_data}
use Rattle.wire_json.specs.MessageFaults.{MessageFault}
use Rattle.node_core.specs.declared.events.Received.{Received}
use Rattle.node_core.specs.declared.events.Received.TheVariants as received
use Rattle.node_core.specs.Node.{Node}
use Rattle.node_core.specs.Receiving.{ReceiveStep}
use Rattle.ringpop_c.specs.declared.codes.Code.{Code}
use Rattle.ringpop_c.specs.declared.codes.Code.TheVariants as code
use Rattle.ringpop_c.specs.Codes.{code_of_stop, code_of_wire}

-- the line of a message, without a newline
abbrev pub line_of : Message → List ℕ
line_of message = compact_text (message_data message)

-- a buffer of the caller's: the bytes before, and the bytes and the written length after
pub record Buffer : Type 0 where
  pub before : List ℕ
  pub after : List ℕ
  pub count : ℕ

-- the text fits, it is a prefix of the buffer after, and its length is written
pub record Fills (text : List ℕ) (buffer : Buffer) : Type 0 where
  pub fits : length text ≤ length buffer.before
  pub count_is : buffer.count ≡ length text
  pub after_is : buffer.after ≡ text ++ drop (length text) buffer.before

-- the buffer is shorter than the longest line and is unchanged, and that line's length is written
pub record IsShort (buffer : Buffer) : Type 0 where
  pub is_less : length buffer.before < max_line
  pub count_is : buffer.count ≡ max_line
  pub after_is : buffer.after ≡ buffer.before

-- the buffer has room for the longest line
abbrev pub HasRoom : Buffer → Type 0
HasRoom buffer = max_line ≤ length buffer.before

-- the line of a message is written: it is read as that message, is no longer than a line may be, and has no newline
pub record Sends (message : Message) (buffer : Buffer) : Type 0 where
  pub fills : Fills (line_of message) buffer
  pub is_read : IsLine (λ v. MessageForm v message) (line_of message)
  pub within : length (line_of message) ≤ max_line
  pub one_line : All (λ x. x ≢ 10) (line_of message)

-- the line of a message is written, or the code is that of out of memory
abbrev pub WritesLine : Message → Buffer → Code → Type 0
WritesLine message buffer answer = ((answer ≡ code.Done) × Sends message buffer) ⊎ (answer ≡ code.Memory)

-- if the buffer has room the node makes a message and its line is written; out of memory the node is unchanged, or has made the message
-- without its line; in too short a buffer node and buffer are unchanged
abbrev pub SaysBy : (Node Sha256Hash → Message) → (Node Sha256Hash → Node Sha256Hash) → Buffer → Node Sha256Hash → Code → Node Sha256Hash → Type 0
SaysBy message after buffer old answer new =
    (HasRoom buffer × (new ≡ after old) × WritesLine (message old) buffer answer)
    ⊎ ((HasRoom buffer × (new ≡ old) × (answer ≡ code.Memory)) ⊎ ((new ≡ old) × (answer ≡ code.ShortBuffer) × IsShort buffer))

-- the output for the result of a message: its answer's line is written, or out of memory for that
abbrev pub TellsReceived : Received → Buffer → Code → Type 0
TellsReceived (received.Done taken) buffer answer = answer ≡ code.Nothing
TellsReceived (received.Answer taken message) buffer answer = ((answer ≡ code.Done) × Sends message buffer) ⊎ (answer ≡ code.Unanswered)
TellsReceived (received.NoAnswer taken) buffer answer = answer ≡ code.Unanswered
TellsReceived (received.Stopped stopped) buffer answer = answer ≡ code_of_stop stopped.cause
TellsReceived received.NotGossip buffer answer = answer ≡ code.NotGossip

-- the node receives the message at this moment, and this is the output for the result
abbrev pub ReceivesBy : Message → ℕ → Buffer → Node Sha256Hash → Code → Node Sha256Hash → Type 0
ReceivesBy message moment buffer old answer new = (outcome : Received) × ReceiveStep old message moment outcome new × TellsReceived outcome buffer answer

-- the code is the error of a line, or out of memory for reading it
abbrev pub IsUnread : List ℕ → Code → Type 0
IsUnread line answer = (fault : WireError) × (answer ≡ code_of_wire fault) × (fault ≢ wire.Memory → Faults MessageFault line fault)

-- if the buffer has room the node receives the message of a line, or is unchanged if the line is not a message; in too short a buffer it is
-- unchanged
abbrev pub HearsBy : List ℕ → ℕ → Buffer → Node Sha256Hash → Code → Node Sha256Hash → Type 0
HearsBy line moment buffer old answer new =
    (HasRoom buffer × (message : Message) × IsLine (λ v. MessageForm v message) line × ReceivesBy message moment buffer old answer new)
    ⊎ ((HasRoom buffer × (new ≡ old) × IsUnread line answer) ⊎ ((new ≡ old) × (answer ≡ code.ShortBuffer) × IsShort buffer))

-- bytes are written, or the buffer is shorter and their length is written, or the code is out of memory
abbrev pub TellsText : List ℕ → Buffer → Code → Type 0
TellsText text buffer answer =
    ((answer ≡ code.Done) × Fills text buffer)
    ⊎ (((answer ≡ code.ShortBuffer) × (length buffer.before < length text) × (buffer.count ≡ length text) × (buffer.after ≡ buffer.before)) ⊎ (answer ≡ code.Memory))
