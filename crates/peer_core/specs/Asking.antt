-- The requests of a node to other nodes, and their results: the message that it made is sent once, and the result is read from the link's
-- answer to it.
use Rattle.std.specs.Prelude.{◌≡◌, Result, Ok, Err}
use Rattle.change_core.specs.declared.addresses.Address.{Address}
use Rattle.message_core.specs.declared.messages.Message.{Message}
use Rattle.node_core.specs.declared.errors.NodeError.{NodeError}
use Rattle.node_core.specs.declared.errors.NodeError.TheVariants as refusal
use Rattle.node_core.specs.declared.events.Event.TheVariants as call
use Rattle.node_core.specs.declared.events.Reply.TheVariants as reply
use Rattle.peer_core.specs.declared.errors.LinkError.{LinkError}
use Rattle.peer_core.specs.declared.hearing.Heard.{Heard}
use Rattle.peer_core.specs.declared.hearing.Heard.TheVariants as heard
use Rattle.peer_core.specs.Acts.{OfActs, did, Just}
use Rattle.peer_core.specs.Links.{MayAnswer, IsAckOf, IsJoined, TellsOf, IsHeard}

-- the message was sent, with this result; or out of memory to make it
abbrev pub IsSent : MayAnswer → Address → (Message → Type 0) → Result Message NodeError → Heard → Type 0
IsSent Came a Wanted (Ok message) h = (answer : Result Message LinkError) × Came a message answer × IsHeard Wanted answer h
IsSent Came a Wanted (Err error) h = (error ≡ refusal.Memory) × (h ≡ heard.OutOfMemory)

module _ {H : Type 0} where
  -- the target was pinged, with this result
  abbrev pub Pinged : MayAnswer → Address → Heard → OfActs H
  Pinged Came a what acts =
      (made : Result Message NodeError) × Just (did (call.PingTo a) (reply.PingTo made)) acts × IsSent Came a (IsAckOf a) made what

  -- the helper was asked about the target, with this result
  abbrev pub Asked : MayAnswer → Address → Address → Heard → OfActs H
  Asked Came h a what acts =
      (made : Result Message NodeError) × Just (did (call.PingReqTo h a) (reply.PingReqTo made)) acts × IsSent Came h (TellsOf a) made what

  -- the host was asked to admit the node, with this result
  abbrev pub Applied : MayAnswer → Address → Heard → OfActs H
  Applied Came a what acts =
      (made : Result Message NodeError) × Just (did call.JoinMessage (reply.JoinMessage made)) acts × IsSent Came a IsJoined made what
