-- Requests that may end early: one that is sent at most once, and one whose wait is over.
use Rattle.std.specs.Prelude.{◌≡◌, ◌⊎◌, ◌&&◌, ◌||◌, ◌==◌, ◌+◌, ◌%◌, ◌^◌, ℕ, not, Bool, true, false, IsTrue, Option, Some, None, Result, Ok, Err, is_err}
use Rattle.std.specs.declared.net.socket_addr.SocketAddr.{SocketAddr}
use Rattle.std.specs.declared.time.Duration.{Duration}
use Rattle.change_core.specs.declared.addresses.Address.{Address}
use Rattle.message_core.specs.declared.messages.Content.{Content}
use Rattle.message_core.specs.declared.messages.Content.TheVariants.{Reply, NotOwner}
use Rattle.message_core.specs.declared.messages.Message.{Message}
use Rattle.peer_core.specs.Forwarding.{IsFailure}
use Rattle.peer_core.specs.Links.{Went}
use Rattle.peer_core.specs.declared.errors.LinkError.{LinkError}
use Rattle.peer_core.specs.declared.errors.LinkError.TheVariants.{Memory}
use Rattle.transport.specs.Sockets.{Dialled, IsSocketOf}
use Rattle.agent_node.specs.Noting.{notes_source}
use Rattle.agent_node.specs.PeerLinks.{net_by}
use Rattle.agent_node.specs.declared.links.NotedLink.{NotedLink}
use Rattle.agent_api.specs.declared.onces.CountedNet.{CountedNet}
use Rattle.agent_api.specs.declared.onces.OnceLink.{OnceLink}

-- whether a content is other than a Reply, or that the node called does not own the key
abbrev pub is_other : Content → Bool
is_other (Reply text) = false
is_other NotOwner = false
is_other content = true

-- whether a node may have performed a request without its reply: it answered otherwise, or it gave no answer and a connection to it was made
abbrev pub is_unsure : Result Message LinkError → Bool → Bool
is_unsure (Ok message) was_made = is_other message.content
is_unsure (Err e) was_made = was_made

-- the number of connections of a network with one more, if there is one, modulo 2^64
abbrev pub counted : {S : Type 0} → Option S → ℕ → ℕ
counted None made = made
counted (Some stream) made = (made + 1) % 2 ^ 64

-- whether a connection was made between two counts
abbrev pub was_made : ℕ → ℕ → Bool
was_made old new = not (old == new)

-- whether a request is not sent again, since its wait is over, or since a node may have performed it and it may not be performed twice
abbrev pub is_last : Bool → Bool → Bool → Bool
is_last is_unsure is_repeatable is_late = is_late || (is_unsure && not is_repeatable)

-- whether an answer ends a request
abbrev pub ends_request : Result Message LinkError → Bool → Bool → Bool → Bool
ends_request (Ok message) is_unsure is_repeatable is_late = is_last is_unsure is_repeatable is_late && is_other message.content
ends_request (Err e) is_unsure is_repeatable is_late = is_last is_unsure is_repeatable is_late

-- The link's answer is its error for memory, after which a request is not sent again, if the call ended the request.
abbrev pub EndsIfOver : Result Message LinkError → Bool → Type 0
EndsIfOver answer is_over = IsTrue is_over → answer ≡ Err Memory

module _ {N S : Type 0} (dialled : Dialled N S) where
  -- one call of a network that counts its connections
  abbrev pub Dials : Dialled (CountedNet N) S
  Dials to limit connection old new = dialled to limit connection old.net new.net × (new.made ≡ counted connection old.made)

  -- a network that counts its connections was asked for one, to the socket of an address, once at most
  abbrev pub MayConnect : Address → CountedNet N → CountedNet N → Type 0
  MayConnect to old new =
      ((socket : SocketAddr) × IsSocketOf to socket × ((limit : Duration) × (connection : Option S) × Dials socket limit connection old new)) ⊎ (new ≡ old)

-- What is noted of the sends of one request: the node that gave the answer to the last, if one did; the number of connections that its network made; whether
-- a node may have performed the request without its reply; and whether it may be performed twice.
pub record Noted : Type 0 where
  pub last : Option Address
  pub made : ℕ
  pub is_unsure : Bool
  pub is_repeatable : Bool

-- nothing is noted
abbrev pub unnoted : Bool → Noted
unnoted is_repeatable = record { last = None; made = 0; is_unsure = false; is_repeatable = is_repeatable }

-- What a call for a request that may not be performed twice notes: a node may have performed the request if one may have before, or by this answer, given whether a
-- connection was made; the link's own error for memory, by which a request ends, counts as no answer, and none comes without a connection. While the request
-- goes on, no node may have performed it.
abbrev pub NotesDoubt : Result Message LinkError → Noted → Noted → Type 0
NotesDoubt answer old new =
    (new.is_unsure ≡ (old.is_unsure || is_unsure answer (was_made old.made new.made)))
    × (was_made old.made new.made ≡ false → is_err answer ≡ true) × (IsFailure answer → old.is_unsure ≡ false → new.is_unsure ≡ false)

-- one call of the link of a request, as it is noted
abbrev pub notes_send : Went Noted
notes_send to message answer old new =
    notes_source to message answer old.last new.last × ((new.is_repeatable ≡ old.is_repeatable) × (old.is_repeatable ≡ false → NotesDoubt answer old new))

module _ {R N : Type 0} where
  -- the network that a link uses over which one request is sent
  abbrev pub net_of : OnceLink R N → CountedNet N
  net_of link = net_by link.link

  -- what such a link notes
  abbrev pub noted_by : OnceLink R N → Noted
  noted_by link = record { last = link.last; made = (net_of link).made; is_unsure = link.is_unsure; is_repeatable = link.is_repeatable }

-- One call of a link over which one request is sent: its network is asked for one connection at most, to the socket of the address. What is known of the
-- request is noted by that and by what came; the request ends where a node may have performed it, if it may not be performed twice.
abbrev pub sends_once : {R N S : Type 0} → Dialled N S → Went (OnceLink R N)
sends_once dialled to message answer old new =
    EndsIfOver answer new.is_over × MayConnect dialled to (net_of old) (net_of new) × notes_send to message answer (noted_by old) (noted_by new)

-- what an agent's link notes of a request that may be performed twice
abbrev pub noted_as_repeatable : {R : Type 0} → NotedLink R → Noted
noted_as_repeatable link = record { last = link.last; made = 0; is_unsure = false; is_repeatable = true }
