-- The provenance of the calls of healing, each from the answers that came before it.
use Rattle.std.specs.Prelude.{◌≡◌, ◌⊎◌, ℕ, Bool, List, [], Contains, Option, Result, Ok}
use Rattle.change_core.specs.declared.addresses.Address.{Address}
use Rattle.change_core.specs.declared.changes.Change.{Change}
use Rattle.message_core.specs.declared.messages.Message.{Message}
use Rattle.node_core.specs.declared.events.Event.TheVariants as call
use Rattle.node_core.specs.declared.events.Reply.TheVariants as reply
use Rattle.node_core.specs.Calls.{OfEvent, WithReply}
use Rattle.peer_core.specs.declared.errors.ClusterError.{ClusterError}
use Rattle.peer_core.specs.declared.healing.Draws.{Draws}
use Rattle.peer_core.specs.Acts.{Act, OfActs, did}
use Rattle.peer_core.specs.Healing.{IsHealing}
use Rattle.peer_core.specs.Links.{MayAnswer}
use Rattle.peer_core.specs.Provenance.{applied, pinged, EachRests}

module _ {H : Type 0} where
  -- the message came over the link, for a ping of the node or for a Join of it
  abbrev pub CameBack : MayAnswer → Message → OfActs H
  CameBack Came m before = (a : Address) × (q : Message) × (Contains before (pinged a q) ⊎ Contains before (applied q)) × Came a q (Ok m)

  -- the node listed a member of this address
  abbrev pub WasListed : Address → OfActs H
  WasListed a before = (held : List Change) × (c : Change) × Contains before (did call.Members (reply.Members (Ok held))) × Contains held c × (c.address ≡ a)

  -- the provenance of a call of healing at this moment, among the acts before it
  abbrev pub HealRestsOn : MayAnswer → ℕ → List (Act H) → Act H → Type 0
  -- the own entry and the members are read, and a Join is the node's own
  HealRestsOn Came now before (OfEvent call.Own, WithReply (reply.Own own)) = Unit {0}
  HealRestsOn Came now before (OfEvent call.Members, WithReply (reply.Members r)) = Unit {0}
  HealRestsOn Came now before (OfEvent call.JoinMessage, WithReply (reply.JoinMessage r)) = Unit {0}
  -- a member that is pinged was listed
  HealRestsOn Came now before (OfEvent (call.PingTo a), WithReply (reply.PingTo r)) = WasListed a before
  -- all that is processed came over the link
  HealRestsOn Came now before (OfEvent (call.Receive m t), WithReply (reply.Receive r)) = (t ≡ now) × CameBack Came m before
  -- healing makes no other call
  HealRestsOn Came now before other = ⊥

  -- each act rests on those before it
  abbrev pub AllHealRest : MayAnswer → ℕ → List (Act H) → OfActs H
  AllHealRest Came now before acts = EachRests (HealRestsOn Came now) before acts

-- each call of healing has its provenance in those before it, also if healing fails
abbrev pub HealsRest : Type 0 → MayAnswer → Type 0
HealsRest H Came =
    (now : ℕ) (hosts : List Address) (draws : Option Draws) (r : Result Bool ClusterError) (acts : List (Act H))
    → IsHealing Came now hosts draws r acts → AllHealRest Came now [] acts
