-- The answers of a server to the inputs of connections.
use Rattle.std.specs.Prelude.{◌≡◌, ◌≢◌, ◌⊎◌, ℕ, ◌<◌, ◌≤◌, List, length, Option, Some, None, Result, Ok, Err, Vec}
use Rattle.std.specs.Global.{Global}
use Rattle.serde_json.specs.Written.{compact_text}
use Rattle.wire_json.specs.Input.{TakesLine}
use Rattle.wire_json.specs.Lines.{Faults, IsLine, max_line}
use Rattle.wire_json.specs.MessageFaults.{MessageFault}
use Rattle.wire_json.specs.Messages.{MessageForm, message_data}
use Rattle.message_core.specs.declared.errors.WireError.{WireError}
use Rattle.message_core.specs.declared.errors.WireError.TheVariants as wire
use Rattle.message_core.specs.declared.kinds.Reason.{Reason}
use Rattle.message_core.specs.declared.kinds.Reason.TheVariants as reason
use Rattle.message_core.specs.declared.messages.Message.{Message}
use Rattle.turn_lock.specs.declared.errors.LockError.{LockError}
use Rattle.locked_node.specs.declared.node.LockedNode.{LockedNode}
use Rattle.locked_node.specs.Passes.{NodePass}
use Rattle.peer_core.specs.Acts.{OfActs, Nothing, Then}
use Rattle.peer_core.specs.Errors.{error_of_lock}
use Rattle.peer_core.specs.Links.{MayAnswer}
use Rattle.peer_core.specs.Members.{Caller}
use Rattle.peer_core.specs.Parts.{Part, Does, Gives, Next, let_in}
use Rattle.peer_core.specs.Serving.{Never, Refuses, Serves, Unhandled}
use Rattle.peer_core.specs.Handling.{Handlings}
use Rattle.line_service.specs.declared.inputs.Input.{Input}
use Rattle.line_service.specs.declared.inputs.Input.TheVariants as input

-- the reason of a refusal for an error of a line
abbrev pub unread_as : WireError → Reason
unread_as wire.Memory = reason.Memory
unread_as other = reason.Malformed

-- the reason of a line that is not read as a message: it is not one, by its first error, or out of memory for reading it
abbrev pub IsUnread : List ℕ → Reason → Type 0
IsUnread line reason.Malformed = (e : WireError) × (e ≢ wire.Memory) × Faults MessageFault line e
IsUnread line reason.Memory = Unit {0}
IsUnread line other = ⊥

-- the input that a line is: its message, or a refusal with the reason why it has none
abbrev pub IsReadAs : List ℕ → Input → Type 0
IsReadAs line (input.Message message) = IsLine (λ v. MessageForm v message) line
IsReadAs line (input.Refused why) = IsUnread line why
IsReadAs line input.Nothing = ⊥

-- the input for the result of reading one line: what the line is; a refusal, if it is too long or out of memory; else one that needs no answer
abbrev pub IsInputOf : Result (Option (Vec ℕ Global)) WireError → Input → Type 0
IsInputOf (Ok (Some line)) heard = IsReadAs line.items heard
IsInputOf (Ok None) heard = heard ≡ input.Nothing
IsInputOf (Err wire.LineTooLong) heard = heard ≡ input.Refused reason.Malformed
IsInputOf (Err wire.Memory) heard = heard ≡ input.Refused reason.Memory
IsInputOf (Err other) heard = heard ≡ input.Nothing

-- one line of the bytes was read, and this is the input; or out of memory to read by
abbrev pub Hears : Option (List ℕ) → Input → Type 0
Hears known heard =
    ((read : Result (Option (Vec ℕ Global)) WireError) × (left : Option (List ℕ)) × TakesLine known read left × IsInputOf read heard)
    ⊎ (heard ≡ input.Refused reason.Memory)

-- the input that bytes are which came over a connection; or that of a connection over which they did not come: out of memory for them, or none that needs an answer
abbrev pub HearsArrived : Result (Vec ℕ Global) WireError → Input → Type 0
HearsArrived (Ok bytes) heard = Hears (Some bytes.items) heard
HearsArrived (Err wire.Memory) heard = heard ≡ input.Refused reason.Memory
HearsArrived (Err other) heard = heard ≡ input.Nothing

-- the line of a message
abbrev pub line_text : Message → List ℕ
line_text message = compact_text (message_data message)

-- the reason of an answer whose own line is not sent: it is too long, or out of memory for it
abbrev pub IsUnsent : Message → Reason → Type 0
IsUnsent answer reason.Failed = max_line < length (line_text answer)
IsUnsent answer reason.Memory = Unit {0}
IsUnsent answer other = ⊥

-- a member has the same node, the same pass and the same link
pub record IsSame {H L : Type 0} (old new : Caller H L) : Type 0 where
  pub node : new.node ≡ old.node
  pub pass : new.pass.ghost_name ≡ old.pass.ghost_name
  pub link : new.link.ghost_name ≡ old.link.ghost_name

module _ {H : Type 0} where
  -- the line of a refusal of the node's for this reason
  abbrev pub IsRefusalLine : Reason → List ℕ → OfActs H
  IsRefusalLine why line acts = (refusal : Message) × Refuses why (Ok refusal) acts × (line ≡ line_text refusal)

  -- the line that is sent for an answer: its own line, which is not too long, with no call; or, if it has none, the line of the refusal in
  -- its stead
  abbrev pub IsSentAs : Message → List ℕ → OfActs H
  IsSentAs answer line acts =
      (Nothing acts × (length line ≤ max_line) × (line ≡ line_text answer)) ⊎ ((why : Reason) × IsUnsent answer why × IsRefusalLine why line acts)

  -- by this pass a part was done up to its end, or up to the call that the lock refused
  abbrev pub IsTried : {A : Type 0} → Part H A → LockedNode H → NodePass H → NodePass H → Type 0
  IsTried {A} Tried locked old new = (r : Result A LockError) × Does locked Tried (let_in r) old new

  -- no line is sent for an answer: it has none, and neither has the refusal in its stead, which the node was asked for once
  abbrev pub SendsNothing : Message → Part H (Unit {0})
  SendsNothing answer r acts = (why : Reason) × IsUnsent answer why × Next (Refuses why) (λ refusal. Gives tt) r acts

module _ {H : Type 0} (hash_of : H → List ℕ → ℕ) (Came : MayAnswer) (Handles : Handlings) (now : ℕ) where
  -- the answer to a message at this moment: that of a node, requests by the handler
  abbrev pub AnswersMessage : Message → Part H Message
  AnswersMessage message = Serves hash_of Came Handles message now message.content

  -- the answer to an input: to its message, or a refusal with the reason why it has none
  abbrev pub AnswersInput : Input → Part H Message
  AnswersInput (input.Message message) = AnswersMessage message
  AnswersInput (input.Refused why) = Unhandled Handles (Refuses why)
  AnswersInput input.Nothing = Never

  -- the line that goes back for an input
  abbrev pub Responds : Input → List ℕ → OfActs H
  Responds heard line acts = (answer : Message) × Then (AnswersInput heard (Ok answer)) (IsSentAs answer line) acts

  -- no line goes back: the lock refuses a call of the answer, or no line is sent for it
  abbrev pub StaysSilent : Input → Part H (Unit {0})
  StaysSilent heard = Next (AnswersInput heard) SendsNothing

  -- no answer is made to an input: no call is made, also none of the handler, or the lock refuses one of the answer's
  abbrev pub IsNotAnswered : Input → LockedNode H → NodePass H → NodePass H → Type 0
  IsNotAnswered input.Nothing locked old new = Handles.never × (new ≡ old)
  IsNotAnswered heard locked old new = (l : LockError) × Does locked (AnswersInput heard) (Err (error_of_lock l)) old new

  -- the calls if no line goes back: none if the input needs no answer; else those of the silence
  abbrev pub IsSilent : Input → LockedNode H → NodePass H → NodePass H → Type 0
  IsSilent input.Nothing locked old new = Handles.never × (new ≡ old)
  IsSilent heard locked old new = IsTried (StaysSilent heard) locked old new
