-- A message and its answer over a connection that may have been kept.
use Rattle.std.specs.Prelude.{◌≡◌, ◌⊎◌, Bool, true, false, IsTrue, ℕ, List, [], ◌∷◌, ◌++◌, Option, Some, None, Result, Err, IfOk, IfSome}
use Rattle.std.specs.Io.KnownBytes.{Appends}
use Rattle.std.specs.declared.net.socket_addr.SocketAddr.{SocketAddr}
use Rattle.serde_json.specs.Written.{compact_text}
use Rattle.change_core.specs.declared.addresses.Address.{Address}
use Rattle.message_core.specs.declared.messages.Content.{Content}
use Rattle.message_core.specs.declared.messages.Content.TheVariants as content
use Rattle.message_core.specs.declared.messages.Message.{Message}
use Rattle.wire_json.specs.Input.{line_of}
use Rattle.wire_json.specs.Lines.{IsLine}
use Rattle.wire_json.specs.Messages.{MessageForm, message_data}
use Rattle.peer_core.specs.declared.errors.LinkError.{LinkError}
use Rattle.peer_core.specs.declared.errors.LinkError.TheVariants.{Io}
use Rattle.transport.specs.Limits.{limit_for}
use Rattle.transport.specs.Sockets.{Dialled, IsSocketOf}
use Rattle.transport.specs.declared.tcp_links.Limits.{Limits}
use Rattle.cluster_names.specs.Lines.{IsOwnLine, line_sent}
use Rattle.kept_links.specs.Marks.{marked_text}
use Rattle.kept_links.specs.declared.kept_links.KeptLink.{KeptLink}

-- whether a content is a Forward's: a request of keys
abbrev pub is_forward : Content → Bool
is_forward (content.Forward keys body) = true
is_forward other = false

-- whether the connection of a content is kept by a link with such a pool: a Forward's, if there is a pool
abbrev pub is_kept : {P : Type 0} → Option P → Content → Bool
is_kept None content = false
is_kept (Some pool) content = is_forward content

-- a line is that of a message, as a node of this cluster sends it; it may have the mark if its connection is to be kept
abbrev pub IsSentAs : Option (List ℕ) → Bool → Message → List ℕ → Type 0
IsSentAs cluster is_kept message line =
    (line ≡ line_sent cluster (compact_text (message_data message)))
    ⊎ (IsTrue is_kept × (line ≡ marked_text (line_sent cluster (compact_text (message_data message)))))

-- a line that came to a node of this cluster is of its own, and its message is this one
abbrev pub IsMessageOf : Option (List ℕ) → List ℕ → Message → Type 0
IsMessageOf cluster came message = (own : List ℕ) × IsOwnLine cluster came own × IsLine (λ v. MessageForm v message) own

module _ {S : Type 0} (contents remaining : S → Option (List ℕ)) (cluster : Option (List ℕ)) where
  -- A line and a newline were written to a stream, and the answer is the message of the next line that it had left then.
  pub record IsAskedAs (line : List ℕ) (stream : S) (answer : Message) : Type 0 where
    pub asked : S
    pub wrote : Appends (contents stream) (contents asked) (line ++ 10 ∷ [])
    pub answers : IfSome (remaining asked) (λ xs. IsMessageOf cluster (line_of xs) answer)

  -- the line of a message was written to a stream, if there is an answer, which is that of the next line
  abbrev pub IsAnsweredOver : Bool → Message → S → Result Message LinkError → Type 0
  IsAnsweredOver is_kept message stream answer = IfOk answer (λ m. (line : List ℕ) × IsSentAs cluster is_kept message line × IsAskedAs line stream m)

  -- the answer over a connection that leads to a socket; `Io` without a connection
  abbrev pub IsAnsweredFrom : (SocketAddr → S → Type 0) → SocketAddr → Bool → Message → Option S → Result Message LinkError → Type 0
  IsAnsweredFrom leads socket is_kept message None answer = answer ≡ Err Io
  IsAnsweredFrom leads socket is_kept message (Some fresh) answer = leads socket fresh × IsAnsweredOver is_kept message fresh answer

-- spares were asked once for a connection to an address, if there are any and the connection is to be kept, and gave this one or none; else they are unchanged
abbrev pub Takes : {P S : Type 0} → (Address → Option S → P → P → Type 0) → Bool → Address → Option S → Option P → Option P → Type 0
Takes took true to spare (Some old) (Some new) = took to spare old new
Takes took true to spare None (Some new) = ⊥
Takes took true to spare old None = (spare ≡ None) × (old ≡ None)
Takes took false to spare old new = (spare ≡ None) × (new ≡ old)

module _ {N C P : Type 0} where
  -- how often a link has failed
  abbrev pub failures_over : KeptLink N C P → ℕ
  failures_over link = link.failures

  -- the network that a link uses
  abbrev pub net_over : KeptLink N C P → N
  net_over link = link.net

  -- how long the calls of a link may take
  abbrev pub limits_over : KeptLink N C P → Limits
  limits_over link = link.limits

  -- the name of the cluster of a link's node, if it has one
  abbrev pub cluster_over : KeptLink N C P → Option (List ℕ)
  cluster_over link = link.cluster.now

  -- two states of a link differ at most in the line of another cluster that came last and in the connections that rest
  pub record IsSameBut (old new : KeptLink N C P) : Type 0 where
    pub net : net_over new ≡ net_over old
    pub limits : limits_over new ≡ limits_over old
    pub cluster : cluster_over new ≡ cluster_over old
    pub failures : failures_over new ≡ failures_over old

  -- the connections that rest, which a link uses, if it does
  abbrev pub spares_over : KeptLink N C P → Option P
  spares_over link = link.pool

  -- whether a link keeps the connection of a content
  abbrev pub keeps_over : KeptLink N C P → Content → Bool
  keeps_over link content = is_kept link.pool content

module _ {N C P S : Type 0} (dialled : Dialled N S) (leads : SocketAddr → S → Type 0) (took : Address → Option S → P → P → Type 0) (contents remaining : S → Option (List ℕ)) where
  -- the link connected once, to the socket of the address within the limit for the message, and had its answer over that
  abbrev pub ConnectsOnce : Address → Message → Result Message LinkError → KeptLink N C P → KeptLink N C P → Type 0
  ConnectsOnce to message answer old new =
      (socket : SocketAddr) × IsSocketOf to socket × ((connection : Option S) × dialled socket (limit_for (limits_over old) message.content) connection (net_over old) (net_over new)
      × IsAnsweredFrom contents remaining (cluster_over old) leads socket (keeps_over old message.content) message connection answer)

  -- the link had its answer over the connection that had rested, and did not connect; or, if there is none, it connected once
  abbrev pub GoesOver : Option S → Address → Message → Result Message LinkError → KeptLink N C P → KeptLink N C P → Type 0
  GoesOver None to message answer old new = ConnectsOnce to message answer old new
  GoesOver (Some spare) to message answer old new =
      (net_over new ≡ net_over old) × IsAnsweredOver contents remaining (cluster_over old) (keeps_over old message.content) message spare answer

  -- one call of a link that keeps connections: it took one that had rested, at most once, and went over that alone, or over a new one if there is
  -- none; or it used neither, and has an error
  abbrev pub CallsKept : Address → Message → Result Message LinkError → KeptLink N C P → KeptLink N C P → Type 0
  CallsKept to message answer old new =
      (limits_over new ≡ limits_over old) × (cluster_over new ≡ cluster_over old)
      × (((spare : Option S) × Takes took (keeps_over old message.content) to spare (spares_over old) (spares_over new) × GoesOver spare to message answer old new)
      ⊎ ((net_over new ≡ net_over old) × (spares_over new ≡ spares_over old) × ((e : LinkError) × (answer ≡ Err e))))
