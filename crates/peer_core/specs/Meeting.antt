-- The meeting of a node with a member, outside of its rounds: a ping, whatever the member's status; its Ack is processed; and if the Ack has
-- another incarnation or status of the node, the member gets a Join, whose one change is the node's own entry.
use Rattle.std.specs.Prelude.{◌==◌, ◌&&◌, not, ℕ, Bool, true, false}
use Rattle.std.specs.List.{list_any}
use Rattle.change_core.specs.declared.addresses.Address.{Address}
use Rattle.change_core.specs.declared.changes.Change.{Change}
use Rattle.change_core.specs.Status.{rank}
use Rattle.message_core.specs.declared.messages.Content.{Content}
use Rattle.message_core.specs.declared.messages.Content.TheVariants as content
use Rattle.node_core.specs.declared.events.Event.TheVariants as call
use Rattle.node_core.specs.declared.events.Reply.TheVariants as reply
use Rattle.peer_core.specs.declared.hearing.Heard.{Heard}
use Rattle.peer_core.specs.declared.hearing.Heard.TheVariants as heard
use Rattle.peer_core.specs.Asking.{Pinged}
use Rattle.peer_core.specs.Joining.{HearsHost, JoinsHost}
use Rattle.peer_core.specs.Links.{MayAnswer}
use Rattle.peer_core.specs.Parts.{Part, Calls, Asks, Gives, Next}

-- a change gives the node of this entry another incarnation or status
abbrev pub differs_from : Change → Change → Bool
differs_from own c = (c.address == own.address) && not ((c.incarnation == own.incarnation) && (rank c.status == rank own.status))

-- an Ack has such a change
abbrev pub misnames : Change → Content → Bool
misnames own (content.Ack news) = list_any (λ s. differs_from own s.change) news.changes
misnames own other = false

-- the answer is such an Ack
abbrev pub is_misnamed : Change → Heard → Bool
is_misnamed own (heard.Answer message) = misnames own message.content
is_misnamed own heard.Other = false
is_misnamed own heard.OutOfMemory = false

module _ {H : Type 0} (Came : MayAnswer) (now : ℕ) where
  -- a member that gives the node another incarnation or status gets a Join, and any other does not
  abbrev pub CorrectsIf : Bool → Address → Part H Bool
  CorrectsIf true a = JoinsHost Came now a
  CorrectsIf false a = Gives false

  -- the same by the node's own entry and the member's answer
  abbrev pub Corrects : Address → Heard → Part H Bool
  Corrects a what = Next (Calls call.Own reply.Own) (λ own. CorrectsIf (is_misnamed own what) a)

  -- an Ack is processed as a host's Joined is, whatever the result, and the member is corrected; out of memory is the error of the meeting
  abbrev pub TakesAndCorrects : Address → Heard → Part H Bool
  TakesAndCorrects a what = Next (HearsHost now what) (λ met. Corrects a what)

  -- a member is pinged once, its Ack is processed at this moment, and the member is corrected; whether it answered by a Joined
  abbrev pub Meets : Address → Part H Bool
  Meets a = Next (Asks (Pinged Came a)) (TakesAndCorrects a)
