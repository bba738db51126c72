-- What goes over a link in a call: each message that the node made for another node, once and in their order, and nothing else.
use Rattle.std.specs.Prelude.{◌≡◌, ◌⊎◌, ◌≤◌, ℕ, zero, suc, ◌+◌, length, List, [], ◌∷◌, ◌++◌, Option, Some, None, Result, Ok}
use denote.Ref.{MutBor}
use Rattle.change_core.specs.declared.addresses.Address.{Address}
use Rattle.message_core.specs.declared.messages.Message.{Message}
use Rattle.node_core.specs.declared.events.Event.TheVariants as call
use Rattle.node_core.specs.declared.events.Reply.TheVariants as reply
use Rattle.node_core.specs.Calls.{OfEvent, WithReply}
use Rattle.locked_node.specs.declared.node.LockedNode.{LockedNode}
use Rattle.locked_node.specs.History.{CallEntry}
use Rattle.locked_node.specs.Passes.{NodePass, Made}
use Rattle.peer_core.specs.declared.errors.LinkError.{LinkError}
use Rattle.peer_core.specs.declared.healing.Choice.{Choice}
use Rattle.peer_core.specs.declared.healing.Draws.{Draws}
use Rattle.peer_core.specs.Acts.{Act, OfActs, Then, Makes}
use Rattle.peer_core.specs.Healing.{Chooses}
use Rattle.peer_core.specs.Links.{Went}

-- what is to be sent for an act: nothing, this message to this address, or this Join to a host
pub data Errand : Type 0 where
  stays : Errand
  goes_to : Address → Message → Errand
  joins : Message → Errand

-- a Ping, a PingReq and a Join that the node made are to be sent, and nothing for any other act
abbrev pub errand_of : {H : Type 0} → Act H → Errand
errand_of (OfEvent (call.PingTo a), WithReply (reply.PingTo (Ok message))) = goes_to a message
errand_of (OfEvent (call.PingReqTo h a), WithReply (reply.PingReqTo (Ok message))) = goes_to h message
errand_of (OfEvent call.JoinMessage, WithReply (reply.JoinMessage (Ok message))) = joins message
errand_of act = stays

-- the first are some of the others, in their order
abbrev pub IsPart : {A : Type 0} → List A → List A → Type 0
IsPart [] all = Unit {0}
IsPart (x ∷ xs) [] = ⊥
IsPart (x ∷ xs) (y ∷ ys) = ((x ≡ y) × IsPart xs ys) ⊎ IsPart (x ∷ xs) ys

-- the address, if there is one
abbrev pub listed : Option Address → List Address
listed None = []
listed (Some a) = a ∷ []

-- the addresses of a choice: the member, and then the host
abbrev pub chosen_hosts : Choice → List Address
chosen_hosts choice = listed choice.member ++ listed choice.host

-- the target of an act, if it is a Ping
abbrev pub pinged_by : {H : Type 0} → Act H → List Address
pinged_by (OfEvent (call.PingTo a), told) = a ∷ []
pinged_by act = []

-- the targets of the Pings among acts, in their order
abbrev pub pinged_in : {H : Type 0} → List (Act H) → List Address
pinged_in [] = []
pinged_in (act ∷ acts) = pinged_by act ++ pinged_in acts

module _ {L : Type 0} (went : Went L) where
  -- the message went over the link to the address, once
  abbrev pub GoesOver : Address → Message → L → L → Type 0
  GoesOver a message old new = (answer : Result Message LinkError) × went a message answer old new

  -- the errand was done by one call of the link, a Join to the first of the hosts; or there was nothing to do, and the link is unchanged
  abbrev pub Runs : Errand → List Address → List Address → L → L → Type 0
  Runs stays hosts left old new = (left ≡ hosts) × (new ≡ old)
  Runs (goes_to a message) hosts left old new = (left ≡ hosts) × GoesOver a message old new
  Runs (joins message) hosts left old new = (host : Address) × (hosts ≡ host ∷ left) × GoesOver host message old new

  module _ {H : Type 0} where
    -- for each act its errand was done, one after the other, the Joins to these hosts
    abbrev pub Sends : List Address → L → L → OfActs H
    Sends hosts old new [] = (hosts ≡ []) × (new ≡ old)
    Sends hosts old new (act ∷ acts) = (left : List Address) × (mid : L) × Runs (errand_of act) hosts left old mid × Sends left mid new acts

    -- the same, the Joins to some of these hosts in their order, at most one for each place in the list
    abbrev pub SendsTo : List Address → L → L → OfActs H
    SendsTo hosts old new acts = (asked : List Address) × IsPart asked hosts × Sends asked old new acts

    -- the same, the Joins to members that the node pinged in these acts
    abbrev pub SendsToPinged : L → L → OfActs H
    SendsToPinged old new acts = SendsTo (pinged_in acts) old new acts

    -- the same to the member and then the host that the numbers choose, by the entry and the members that the node was asked for; without
    -- numbers, or without that choice, no Join
    abbrev pub SendsByDraws : List Address → Option Draws → L → L → OfActs H
    SendsByDraws hosts None old new acts = SendsTo [] old new acts
    SendsByDraws hosts (Some draws) old new acts =
        SendsTo [] old new acts ⊎ ((choice : Choice) × Then (Chooses hosts draws (Ok choice)) (SendsTo (chosen_hosts choice) old new) acts)

    -- By this pass, and over the link that is lent, the messages were sent, the Joins to some of these hosts.
    pub record Sent (locked : LockedNode H) (hosts : List Address) (p q : NodePass H) (old new : MutBor L) : Type 0 where
      pub same : new.ghost_name ≡ old.ghost_name
      pub makes : Makes locked (SendsTo hosts old.now new.now) p q

-- By this pass, and over the link that is lent, messages were sent so.
pub record SentAs {L H : Type 0} (So : L → L → OfActs H) (locked : LockedNode H) (p q : NodePass H) (old new : MutBor L) : Type 0 where
  pub same : new.ghost_name ≡ old.ghost_name
  pub makes : Makes locked (So old.now new.now) p q

module _ {L : Type 0} (went : Went L) where
  -- the link was called as often as this
  abbrev pub GoesTimes : ℕ → L → L → Type 0
  GoesTimes zero old new = new ≡ old
  GoesTimes (suc n) old new = (to : Address) × (message : Message) × (mid : L) × GoesOver went to message old mid × GoesTimes n mid new

-- one if an errand has a message
abbrev pub one_if_sent : Errand → ℕ
one_if_sent stays = 0
one_if_sent (goes_to a message) = 1
one_if_sent (joins message) = 1

-- one if it has a Join
abbrev pub one_if_join : Errand → ℕ
one_if_join stays = 0
one_if_join (goes_to a message) = 0
one_if_join (joins message) = 1

-- how many messages of acts are to be sent
abbrev pub messages_in : {H : Type 0} → List (Act H) → ℕ
messages_in [] = 0
messages_in (act ∷ acts) = one_if_sent (errand_of act) + messages_in acts

-- how many of them are Joins
abbrev pub joins_in : {H : Type 0} → List (Act H) → ℕ
joins_in [] = 0
joins_in (act ∷ acts) = one_if_join (errand_of act) + joins_in acts

-- the link is called as often as the node made messages, and there are at most as many Joins as hosts
abbrev pub SendingsCount : (H : Type 0) → {L : Type 0} → Went L → Type 0
SendingsCount H {L} went =
    (hosts : List Address) (old new : L) (acts : List (Act H)) → SendsTo went hosts old new acts
    → GoesTimes went (messages_in acts) old new × (joins_in acts ≤ length hosts)

-- the same of healing: at most two Joins go out
abbrev pub HealingsCount : (H : Type 0) → {L : Type 0} → Went L → Type 0
HealingsCount H {L} went =
    (hosts : List Address) (draws : Option Draws) (old new : L) (acts : List (Act H)) → SendsByDraws went hosts draws old new acts
    → GoesTimes went (messages_in acts) old new × (joins_in acts ≤ 2)

-- between two states a pass made the same calls, whoever says which: so the trace of a call and its messages are of the same acts
abbrev pub CallsAgree : Type 0 → Type 0
CallsAgree H = (locked : LockedNode H) (p q : NodePass H) (es fs : List (CallEntry H)) → Made locked p q es → Made locked p q fs → es ≡ fs
