-- A question to a running node by no member, and the result of its answer.
use Rattle.std.specs.Prelude.{◌≡◌, ℕ, List, [], ◌∷◌, ◌++◌, Option, Result, Ok, Err}
use Rattle.std.specs.Io.KnownBytes.{Appends, Keeps}
use Rattle.change_core.specs.declared.addresses.Address.{Address}
use Rattle.change_core.specs.Address.{address_of}
use Rattle.wire_json.specs.Input.{AppendsPrefix}
use Rattle.message_core.specs.declared.messages.Content.{Content}
use Rattle.message_core.specs.declared.messages.Content.TheVariants as content
use Rattle.message_core.specs.declared.messages.Message.{Message}
use Rattle.peer_core.specs.declared.errors.LinkError.{LinkError}
use Rattle.peer_core.specs.declared.errors.LinkError.TheVariants as link
use Rattle.peer_core.specs.Links.{MayAnswer}
use Rattle.cli_net.specs.declared.faults.AskError.{AskError}
use Rattle.cli_net.specs.declared.faults.AskError.TheVariants as fault

-- a message that no node made: from 0.0.0.0:1 at incarnation 0
abbrev pub unsourced : Content → Message
unsourced told = record { source = address_of 0 1; source_incarnation = 0; content = told }

-- the result of a link's answer
abbrev pub content_in : Result Message LinkError → Result Content AskError
content_in (Ok message) = Ok message.content
content_in (Err link.Memory) = Err fault.OutOfMemory
content_in (Err other) = Err fault.NoAnswer

-- the link was asked this once, by no member, and this is the result of its answer
abbrev pub Asked : MayAnswer → Address → Content → Result Content AskError → Type 0
Asked May to told came = (answer : Result Message LinkError) × May to (unsourced told) answer × (came ≡ content_in answer)

-- a request for one key
abbrev pub request : List ℕ → List ℕ → Content
request key body = content.Forward (key ∷ []) body

-- a content that answers no request
abbrev pub IsOther : Content → Type 0
IsOther (content.Join news) = Unit {0}
IsOther (content.Joined news) = Unit {0}
IsOther (content.Ping news) = Unit {0}
IsOther (content.Ack news) = Unit {0}
IsOther (content.PingReq news target) = Unit {0}
IsOther (content.PingReqAck news target reached) = Unit {0}
IsOther (content.Forward keys body) = Unit {0}
IsOther other = ⊥

-- a reply came with this text
abbrev pub IsReply : MayAnswer → Address → Content → List ℕ → Type 0
IsReply May to told text = Asked May to told (Ok (content.Reply text))

-- the error of a question without a reply; it is out of memory only if the link was
abbrev pub IsNoReply : MayAnswer → Address → Content → AskError → Type 0
IsNoReply May to told fault.NotOwner = Asked May to told (Ok content.NotOwner)
IsNoReply May to told (fault.Refused reason) = Asked May to told (Ok (content.Refused reason))
IsNoReply May to told fault.Unexpected = (other : Content) × Asked May to told (Ok other) × IsOther other
IsNoReply May to told fault.NoAnswer = Asked May to told (Err fault.NoAnswer)
IsNoReply May to told fault.OutOfMemory = Asked May to told (Err fault.OutOfMemory)
IsNoReply May to told fault.CannotWrite = ⊥

-- the same where the request itself is still to be made, for which there may be no memory
abbrev pub IsUnasked : MayAnswer → Address → Content → AskError → Type 0
IsUnasked May to told fault.OutOfMemory = Unit {0}
IsUnasked May to told other = IsNoReply May to told other

-- a reply came with a text, and it and a newline are written
abbrev pub WritesReply : (List ℕ → Type 0) → Option (List ℕ) → Option (List ℕ) → Type 0
WritesReply Came old new = (text : List ℕ) × Came text × Appends old new (text ++ 10 ∷ [])

-- the output of a reply at an error: a prefix of its line if one came and the writer failed, else none
abbrev pub LeavesReply : (List ℕ → Type 0) → (AskError → Type 0) → AskError → Option (List ℕ) → Option (List ℕ) → Type 0
LeavesReply Came Failed fault.CannotWrite old new = (text : List ℕ) × Came text × AppendsPrefix old new (text ++ 10 ∷ [])
LeavesReply Came Failed other old new = Failed other × Keeps old new
