-- Links over sockets.
use Rattle.std.specs.Prelude.{◌≡◌, ◌⊎◌, ℕ, ◌<◌, List, [], ◌∷◌, ◌++◌, length, Option, Some, None, Result, Ok, Err, IfOk, IfSome}
use Rattle.std.specs.Io.KnownBytes.{Appends}
use Rattle.std.specs.Net.Addr.{IsIpv4OfBits, IsV4And}
use Rattle.std.specs.Net.Socket.{socket_ip, socket_port}
use Rattle.std.specs.declared.net.socket_addr.SocketAddr.{SocketAddr}
use Rattle.std.specs.declared.time.Duration.{Duration}
use Rattle.change_core.specs.declared.addresses.Address.{Address}
use Rattle.change_core.specs.Address.{ip_of, port_of}
use Rattle.serde_json.specs.Written.{compact_text}
use Rattle.message_core.specs.declared.messages.Message.{Message}
use Rattle.wire_json.specs.Input.{line_of}
use Rattle.wire_json.specs.Lines.{IsLine, max_line}
use Rattle.wire_json.specs.Messages.{MessageForm, message_data}
use Rattle.transport.specs.declared.tcp_links.Limits.{Limits}
use Rattle.transport.specs.declared.tcp_links.TcpLink.{TcpLink}
use Rattle.transport.specs.Limits.{limit_for}
use Rattle.peer_core.specs.declared.errors.LinkError.{LinkError}
use Rattle.peer_core.specs.declared.errors.LinkError.TheVariants.{Io}

-- the IPv4 address and the port, in the network's form
abbrev pub IsSocketOf : Address → SocketAddr → Type 0
IsSocketOf a socket = IsV4And (socket_ip socket) (λ ip. IsIpv4OfBits ip (ip_of a)) × (socket_port socket ≡ port_of a)

-- a stream leads to the socket of the address
abbrev pub LeadsTo : {S : Type 0} → (SocketAddr → S → Type 0) → Address → S → Type 0
LeadsTo leads a stream = (socket : SocketAddr) × IsSocketOf a socket × leads socket stream

-- a message whose line would be longer than a line may be
abbrev pub IsTooLong : Message → Type 0
IsTooLong message = max_line < length (compact_text (message_data message))

-- A message was answered over a stream that leads to the address: the message's line and a newline were written to it, and the answer is
-- the message of the next line that it had left then.
pub record IsExchanged {S : Type 0} (Leads : Address → S → Type 0) (contents remaining : S → Option (List ℕ)) (to : Address) (message answer : Message) : Type 0 where
  pub fresh : S
  pub asked : S
  pub leads : Leads to fresh
  pub wrote : Appends (contents fresh) (contents asked) (compact_text (message_data message) ++ 10 ∷ [])
  pub answers : IfSome (remaining asked) (λ xs. IsLine (λ v. MessageForm v answer) (line_of xs))

module _ {N : Type 0} where
  -- how often a link has failed
  abbrev pub failures_over : TcpLink N → ℕ
  failures_over link = link.failures

  -- the network that a link uses
  abbrev pub net_of : TcpLink N → N
  net_of link = link.net

  -- how long the calls of a link may take
  abbrev pub limits_of : TcpLink N → Limits
  limits_of link = link.limits

-- the connection of a result, if there is one
abbrev pub connection_in : {S E : Type 0} → Result S E → Option S
connection_in (Ok stream) = Some stream
connection_in (Err error) = None

-- one call of a network, from its state before to that after: a socket, a limit, and the connection, if there is one
abbrev pub Dialled : Type 0 → Type 0 → Type 1
Dialled N S = SocketAddr → Duration → Option S → N → N → Type 0

-- the answer that a message has over a connection: without one it is `Io`; else, if it is no error, the message of the next line after the
-- message's line was written to this connection
abbrev pub IsAnsweredOver : {S : Type 0} → (S → Option (List ℕ)) → (S → Option (List ℕ)) → Address → Message → Option S → Result Message LinkError → Type 0
IsAnsweredOver contents remaining to message None answer = answer ≡ Err Io
IsAnsweredOver contents remaining to message (Some fresh) answer = IfOk answer (IsExchanged (λ a stream. stream ≡ fresh) contents remaining to message)

module _ {N S : Type 0} (dialled : Dialled N S) (contents remaining : S → Option (List ℕ)) where
  -- the link connected once, to the socket of the address within the limit for the message, and had its answer over that
  abbrev pub ConnectsOnce : Address → Message → Result Message LinkError → TcpLink N → TcpLink N → Type 0
  ConnectsOnce to message answer old new =
      (socket : SocketAddr) × IsSocketOf to socket × ((connection : Option S) × dialled socket (limit_for (limits_of old) message.content) connection (net_of old) (net_of new)
      × IsAnsweredOver contents remaining to message connection answer)

  -- one call of a link over sockets: it connected once, or not at all and has an error
  abbrev pub CallsOver : Address → Message → Result Message LinkError → TcpLink N → TcpLink N → Type 0
  CallsOver to message answer old new = (limits_of new ≡ limits_of old) × (ConnectsOnce to message answer old new ⊎ ((net_of new ≡ net_of old) × ((e : LinkError) × (answer ≡ Err e))))
