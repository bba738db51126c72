-- A request of another node that is passed on to its owner.
use Rattle.std.specs.Prelude.{◌≡◌, ◌≢◌, ◌⊎◌, ◌≤◌, ℕ, Bool, true, false, List, [], ◌∷◌, length, slice_get, Option, Some, None, IfOk, Result, Ok, Err, Vec}
use Rattle.std.specs.Global.{Global}
use Rattle.change_core.specs.Status.{IsServing}
use Rattle.change_core.specs.declared.addresses.Address.{Address}
use Rattle.change_core.specs.declared.changes.Change.{Change}
use Rattle.hash_ring.specs.Points.{owner, hash_number}
use Rattle.hash_ring.specs.declared.hash.Sha256Hash.{Sha256Hash}
use Rattle.message_core.specs.Messages.{kind_of}
use Rattle.message_core.specs.declared.kinds.Kind.TheVariants as kind
use Rattle.message_core.specs.declared.messages.Content.{Content}
use Rattle.message_core.specs.declared.messages.Content.TheVariants as content
use Rattle.message_core.specs.declared.messages.Message.{Message}
use Rattle.node_core.specs.Calls.{OfEvent, OfView}
use Rattle.node_core.specs.Viewing.{Viewed}
use Rattle.node_core.specs.declared.events.Event.TheVariants as call
use Rattle.node_core.specs.declared.events.Reply.TheVariants as reply
use Rattle.peer_core.specs.Acts.{Act, OfActs, Just, Nothing, Then, did, looked}
use Rattle.peer_core.specs.Exchanges.{SendsTo}
use Rattle.peer_core.specs.Joining.{IsJoin}
use Rattle.peer_core.specs.Links.{MayAnswer, Went}
use Rattle.peer_core.specs.Serving.{message_by}
use Rattle.peer_core.specs.declared.errors.ClusterError.{ClusterError}
use Rattle.peer_core.specs.declared.errors.LinkError.{LinkError}
use Rattle.peer_core.specs.declared.errors.LinkError.TheVariants as link
use Rattle.line_service.specs.Answering.{line_text}
use Rattle.line_service.specs.declared.inputs.Input.{Input}
use Rattle.line_service.specs.declared.inputs.Input.TheVariants as input
use Rattle.agent_node.specs.Calling.{Calling, HasMade, Looks}
use Rattle.agent_peers.specs.declared.relays.Relayed.{Relayed}
use Rattle.agent_peers.specs.declared.relays.Relayed.TheVariants.{Lost, Reply, NoReply, NotDone}

-- an address is the owner of the one key of a request by a view, and not that of the node whose view it is
abbrev pub IsOwnerBy : Viewed Sha256Hash → Content → Address → Type 0
IsOwnerBy view (content.Forward keys body) a =
    (length keys ≤ 1) × ((key : List ℕ) × (slice_get keys 0 ≡ Some key) × (owner hash_number view.replicas view.servers key ≡ Some a)) × (a ≢ view.own)
IsOwnerBy view told a = ⊥

-- by a view no other node owns the key of the request, or it has more than one
abbrev pub HasNoOwnerBy : Viewed Sha256Hash → Content → Type 0
HasNoOwnerBy view told = (a : Address) → ¬ (IsOwnerBy view told a)

-- the node was asked for a view, by which this is the owner
abbrev pub Names : Message → Address → OfActs Sha256Hash
Names request a acts = (view : Viewed Sha256Hash) × Just (looked (Ok view)) acts × IsOwnerBy view request.content a

-- the node was asked for a view: it gave none, or one by which no other node is the owner
abbrev pub NamesNobody : Message → OfActs Sha256Hash
NamesNobody request acts = (seen : Result (Viewed Sha256Hash) ClusterError) × Looks seen acts × IfOk seen (λ view. HasNoOwnerBy view request.content)

-- no other node than the sender is the owner by the view that is asked for first
abbrev pub Keeps : Message → OfActs Sha256Hash
Keeps request acts = NamesNobody request acts ⊎ Then (Names request request.source) (λ later. Unit {0}) acts

-- whether a call asks the node for a view or for its own entry
abbrev pub is_look : Act Sha256Hash → Bool
is_look (OfView, seen) = true
is_look (OfEvent call.Own, own) = true
is_look other = false

-- calls that ask the node for views and its own entry alone
abbrev pub OnlyLooks : OfActs Sha256Hash
OnlyLooks [] = Unit {0}
OnlyLooks (act ∷ acts) = (is_look act ≡ true) × OnlyLooks acts

-- the node gave its own entry; the owner is not the sender, or the node does not serve
abbrev pub IsNotReturned : Message → Address → OfActs Sha256Hash
IsNotReturned request a acts = (own : Change) × Just (did call.Own (reply.Own own)) acts × ((a ≢ request.source) ⊎ ¬ (IsServing own.status))

-- the answer to a request shows that it was not performed: the node called does not own it, or nothing was sent
abbrev pub IsNotDone : Result Message LinkError → Type 0
IsNotDone (Ok message) = kind_of message.content ≡ kind.NotOwner
IsNotDone (Err error) = error ≡ link.Spent

-- the answer to a request is a Reply
abbrev pub IsReply : Result Message LinkError → Type 0
IsReply (Ok message) = kind_of message.content ≡ kind.Reply
IsReply (Err error) = ⊥

-- what comes of a request by the answer to it: what goes back is the Reply that came, if there is memory for its line; and only if the request was not
-- performed, that is said
abbrev pub IsRelayedAs : Result Message LinkError → Relayed → Type 0
IsRelayedAs answer (Reply line) = (message : Message) × (answer ≡ Ok message) × (kind_of message.content ≡ kind.Reply) × (line.items ≡ line_text message)
IsRelayedAs answer Lost = IsReply answer
IsRelayedAs answer NoReply = ¬ (IsNotDone answer) × ¬ (IsReply answer)
IsRelayedAs answer NotDone = IsNotDone answer

-- what goes back where this node does not answer a request itself: the line of the Reply, or nothing
abbrev pub sent_back : Relayed → Option (Vec ℕ Global)
sent_back (Reply line) = Some line
sent_back other = None

module _ {L : Type 0} (Came : MayAnswer) (went : Went L) where
  -- the node joined the sender of the request, with this result, and the Join went over the link
  abbrev pub Joins : Message → Result ℕ ClusterError → L → L → OfActs Sha256Hash
  Joins request joined old new acts =
      ((now : ℕ) × IsJoin Came now (request.source ∷ []) joined acts) × SendsTo went (request.source ∷ []) old new acts

  -- the sender of the request was sent a Join, and its Joined came
  abbrev pub Meets : Message → L → L → OfActs Sha256Hash
  Meets request old new acts = (count : ℕ) × Joins request (Ok count) old new acts

  -- the sender of the request was sent a Join, or nothing was done
  abbrev pub MayJoin : Message → L → L → OfActs Sha256Hash
  MayJoin request old new acts = (Nothing acts × (new ≡ old)) ⊎ ((joined : Result ℕ ClusterError) × Joins request joined old new acts)

  -- a view of the node names the owner, another than the sender, and nothing is sent; or it names the sender, and after a Join to it another
  -- view names an owner to which the request may be sent
  abbrev pub Chooses : Message → Address → L → L → OfActs Sha256Hash
  Chooses request a old new acts =
      (Names request a acts × (a ≢ request.source) × (new ≡ old))
      ⊎ Then (Names request request.source) (Then (Meets request old new) (Then (Names request a) (IsNotReturned request a))) acts

  -- a message went over the link to an address, once, and this came of its answer
  abbrev pub IsRelayed : Address → Message → Relayed → L → L → Type 0
  IsRelayed to message relayed old new =
      (answer : Result Message LinkError) × Came to message answer × went to message answer old new × IsRelayedAs answer relayed

  -- the node's views chose an owner, the node gave its own entry, and by that entry the request went over the link to the owner, once
  abbrev pub PassesOn : Message → Relayed → L → L → OfActs Sha256Hash
  PassesOn request relayed old new acts =
      (owner : Address) × (own : Change) × (mid : L) × Then (Chooses request owner old mid) (Just (did call.Own (reply.Own own))) acts
      × IsRelayed owner (message_by own request.content) relayed mid new

  -- no request goes over the link, and the node is asked for views and its own entry alone, but for one Join at most, to the sender of the request,
  -- whose Joined is processed
  abbrev pub Withholds : Message → L → L → OfActs Sha256Hash
  Withholds request old new = Then OnlyLooks (Then (MayJoin request old new) OnlyLooks)

  -- a request was passed on, with this result; or none was sent, and it is said not to be done
  abbrev pub IsPassedOn : Message → Relayed → L → L → Calling → Calling → Type 0
  IsPassedOn request relayed before after old new =
      HasMade (PassesOn request relayed before after) old new ⊎ ((relayed ≡ NotDone) × HasMade (Withholds request before after) old new)

  -- the same of an input: the message that it is was passed on, or not; or nothing was done, also for any other input
  abbrev pub IsRelayOf : Input → Relayed → L → L → Calling → Calling → Type 0
  IsRelayOf heard relayed before after old new =
      ((request : Message) × (heard ≡ input.Message request) × IsPassedOn request relayed before after old new)
      ⊎ ((relayed ≡ NotDone) × (after ≡ before) × (new ≡ old))
