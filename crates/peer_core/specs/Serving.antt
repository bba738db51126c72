-- The answer of a node to a message, and its calls: all of them, and each of them once, up to the answer or to the call that the lock
-- refused. The kinds of message are those of SWIM (ping, ping-req) and of ringpop-go's packages swim (join) and forward.
use Rattle.std.specs.Prelude.{◌≡◌, ◌≢◌, ◌⊎◌, ℕ, Bool, true, false, List, Option, Some, None, Result, Ok, Err}
use Rattle.change_core.specs.declared.addresses.Address.{Address}
use Rattle.change_core.specs.declared.changes.Change.{Change}
use Rattle.message_core.specs.declared.kinds.Reason.{Reason}
use Rattle.message_core.specs.declared.kinds.Reason.TheVariants as reason
use Rattle.message_core.specs.declared.messages.Content.{Content}
use Rattle.message_core.specs.declared.messages.Content.TheVariants as content
use Rattle.message_core.specs.declared.messages.Message.{Message}
use Rattle.node_core.specs.declared.errors.NodeError.{NodeError}
use Rattle.node_core.specs.declared.errors.NodeError.TheVariants as node
use Rattle.node_core.specs.declared.events.Event.TheVariants as call
use Rattle.node_core.specs.declared.events.Reply.TheVariants as reply
use Rattle.node_core.specs.declared.events.Received.{Received}
use Rattle.node_core.specs.declared.events.Received.TheVariants as received
use Rattle.node_core.specs.declared.events.StopCause.{StopCause}
use Rattle.node_core.specs.declared.events.StopCause.TheVariants as cause
use Rattle.node_core.specs.Viewing.{Viewed}
use Rattle.forward_core.specs.declared.errors.ForwardError.{ForwardError}
use Rattle.forward_core.specs.declared.errors.ForwardError.TheVariants as refusal
use Rattle.forward_core.specs.declared.routes.Route.{Route}
use Rattle.forward_core.specs.declared.routes.Route.TheVariants as route
use Rattle.forward_core.specs.Routes.{IsRouteOf}
use Rattle.peer_core.specs.declared.errors.HandlerFault.{HandlerFault}
use Rattle.peer_core.specs.declared.hearing.Heard.{Heard}
use Rattle.peer_core.specs.declared.hearing.Heard.TheVariants as heard
use Rattle.peer_core.specs.Acts.{looked, Just, Nothing}
use Rattle.peer_core.specs.Asking.{Pinged}
use Rattle.peer_core.specs.Handling.{Handlings, handled_as}
use Rattle.peer_core.specs.Links.{MayAnswer}
use Rattle.peer_core.specs.Parts.{Part, IsOfLock, Calls, Asks, Gives, Next}

-- the reason in a refusal for the cause that stopped a batch
abbrev pub reason_of : StopCause → Reason
reason_of cause.Exhausted = reason.Exhausted
reason_of cause.Full = reason.Full
reason_of cause.Memory = reason.Memory

-- a message of a member's own, at the incarnation of its entry
abbrev pub message_by : Change → Content → Message
message_by own told = record { source = own.address; source_incarnation = own.incarnation; content = told }

-- the same, by a view of the node
abbrev pub message_from : {H : Type 0} → Viewed H → Content → Message
message_from view told = record { source = view.own; source_incarnation = view.incarnation; content = told }

-- the route of a request is decided by the owner of its keys that a view of the node names; if that is this node, the handler has the
-- answer, and was called once; else it was not called
abbrev pub IsRouted : Handlings → List (List ℕ) → List ℕ → Result Route ForwardError → Content → Type 0
IsRouted Handled keys body (Ok route.Here) told = (answer : Result (List ℕ) HandlerFault) × Handled.once keys body answer × (told ≡ handled_as answer)
IsRouted Handled keys body (Ok (route.To owner)) told = Handled.never × (told ≡ content.NotOwner)
IsRouted Handled keys body (Ok route.Nobody) told = Handled.never × (told ≡ content.Refused reason.Nobody)
IsRouted Handled keys body (Err refusal.Diverged) told = Handled.never × (told ≡ content.Refused reason.Diverged)
IsRouted Handled keys body (Err other) told = ⊥

-- the content of the answer to a request, by a view of the node
abbrev pub IsDecided : {H : Type 0} → (H → List ℕ → ℕ) → Handlings → List (List ℕ) → List ℕ → Viewed H → Content → Type 0
IsDecided hash_of Handled keys body view told = (way : Result Route ForwardError) × IsRouteOf hash_of view keys way × IsRouted Handled keys body way told

module _ {H : Type 0} where
  -- no result and no acts are possible
  abbrev pub Never : {A : Type 0} → Part H A
  Never r acts = ⊥

  -- a part without a call of the handler
  abbrev pub Unhandled : {A : Type 0} → Handlings → Part H A → Part H A
  Unhandled Handled P r acts = Handled.never × P r acts

  -- a part that has none if it fails
  abbrev pub FailsUnhandled : {A : Type 0} → Handlings → Part H A → Part H A
  FailsUnhandled Handled P (Ok a) acts = P (Ok a) acts
  FailsUnhandled Handled P (Err e) acts = Handled.never × P (Err e) acts

  -- the node says this, with itself as the source
  abbrev pub Says : Content → Part H Message
  Says told = Next (Calls call.Own reply.Own) (λ own. Gives (message_by own told))

  -- the node's answer is a refusal for this reason
  abbrev pub Refuses : Reason → Part H Message
  Refuses why = Says (content.Refused why)

  -- the message is received
  abbrev pub Receives : Message → ℕ → Part H Received
  Receives message now = Calls (call.Receive message now) reply.Receive

  -- the answer to a message that the node answers, by the result of receiving it
  abbrev pub Answers : Received → Part H Message
  Answers (received.Answer taken made) = Gives made
  Answers (received.NoAnswer taken) = Refuses reason.Memory
  Answers (received.Stopped stopped) = Refuses (reason_of stopped.cause)
  Answers (received.Done taken) = Never
  Answers received.NotGossip = Never

  -- a message of gossip is received, and answered by what that gives
  abbrev pub Gossips : Message → ℕ → Part H Message
  Gossips message now = Next (Receives message now) Answers

  -- whether a target was reached, by its answer: its Ack is processed, whatever the result
  abbrev pub Seeks : ℕ → Heard → Part H (Option Bool)
  Seeks now (heard.Answer ack) = Next (Receives ack now) (λ received. Gives (Some true))
  Seeks now heard.Other = Gives (Some false)
  Seeks now heard.OutOfMemory = Gives None

  -- the target is the node itself, which is reached, or is pinged
  abbrev pub Reaches : MayAnswer → ℕ → Address → Address → Part H (Option Bool)
  Reaches Came now target own r acts =
      ((own ≡ target) × Gives (Some true) r acts) ⊎ ((own ≢ target) × Next (Asks (Pinged Came target)) (Seeks now) r acts)

  -- whether the target is reached; there may be no memory to find it out
  abbrev pub Finds : MayAnswer → ℕ → Address → Part H (Option Bool)
  Finds Came now target = Next (Calls call.Own reply.Own) (λ own. Reaches Came now target own.address)

  -- the message that was made, or a refusal if out of memory for it
  abbrev pub GivesMade : Result Message NodeError → Part H Message
  GivesMade (Ok made) = Gives made
  GivesMade (Err node.Memory) = Refuses reason.Memory
  GivesMade (Err other) = Never

  -- the result for the target is reported to the requester
  abbrev pub TellsRequester : Address → Address → Option Bool → Part H Message
  TellsRequester requester target (Some reached) = Next (Calls (call.PingReqAckTo requester target reached) reply.PingReqAckTo) GivesMade
  TellsRequester requester target None = Refuses reason.Memory

  -- it is found out whether the target is reached, and that is reported to the requester
  abbrev pub Reports : MayAnswer → Address → ℕ → Address → Part H Message
  Reports Came requester now target = Next (Finds Came now target) (TellsRequester requester target)

  -- the answer to a PingReq, by the result of receiving it
  abbrev pub AnswersPingReq : MayAnswer → Address → ℕ → Address → Received → Part H Message
  AnswersPingReq Came requester now target (received.Done taken) = Reports Came requester now target
  AnswersPingReq Came requester now target (received.Stopped stopped) = Refuses (reason_of stopped.cause)
  AnswersPingReq Came requester now target (received.Answer taken made) = Never
  AnswersPingReq Came requester now target (received.NoAnswer taken) = Never
  AnswersPingReq Came requester now target received.NotGossip = Never

  -- a PingReq is received, its target is pinged, and whether that was reached is reported to the requester
  abbrev pub PassesOn : MayAnswer → Message → ℕ → Address → Part H Message
  PassesOn Came message now target = Next (Receives message now) (AnswersPingReq Came message.source now target)

  -- the node is asked for a view; there may be no memory for one
  abbrev pub Views : Part H (Result (Viewed H) NodeError)
  Views (Ok (Ok view)) acts = Just (looked (Ok view)) acts
  Views (Ok (Err n)) acts = Just (looked (Err n)) acts × (n ≡ node.Memory)
  Views (Err e) acts = Nothing acts × IsOfLock e

  -- the node answers what one view decides, at the incarnation of that view; a refusal `memory` if there is no view
  abbrev pub Decides : (H → List ℕ → ℕ) → Handlings → List (List ℕ) → List ℕ → Result (Viewed H) NodeError → Part H Message
  Decides hash_of Handled keys body (Ok view) r acts =
      (told : Content) × IsDecided hash_of Handled keys body view told × Gives (message_from view told) r acts
  Decides hash_of Handled keys body (Err n) r acts = Unhandled Handled (Refuses reason.Memory) r acts

  -- one view decides the answer to a request, and whether the handler is called, once
  abbrev pub Forwards : (H → List ℕ → ℕ) → Handlings → List (List ℕ) → List ℕ → Part H Message
  Forwards hash_of Handled keys body = Next (FailsUnhandled Handled Views) (Decides hash_of Handled keys body)

  -- the answer to a message received at this moment, by its content; the handler is called for a Forward alone
  abbrev pub Serves : (H → List ℕ → ℕ) → MayAnswer → Handlings → Message → ℕ → Content → Part H Message
  Serves hash_of Came Handled message now (content.Join news) = Unhandled Handled (Gossips message now)
  Serves hash_of Came Handled message now (content.Ping news) = Unhandled Handled (Gossips message now)
  Serves hash_of Came Handled message now (content.PingReq news target) = Unhandled Handled (PassesOn Came message now target)
  Serves hash_of Came Handled message now (content.Forward keys body) = Forwards hash_of Handled keys body
  Serves hash_of Came Handled message now (content.Joined news) = Unhandled Handled (Refuses reason.Unexpected)
  Serves hash_of Came Handled message now (content.Ack news) = Unhandled Handled (Refuses reason.Unexpected)
  Serves hash_of Came Handled message now (content.PingReqAck news target reached) = Unhandled Handled (Refuses reason.Unexpected)
  Serves hash_of Came Handled message now (content.Reply body) = Unhandled Handled (Refuses reason.Unexpected)
  Serves hash_of Came Handled message now content.NotOwner = Unhandled Handled (Refuses reason.Unexpected)
  Serves hash_of Came Handled message now (content.Refused why) = Unhandled Handled (Refuses reason.Unexpected)
