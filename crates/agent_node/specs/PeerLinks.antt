-- A link between the nodes of a cluster.
use Rattle.std.specs.Prelude.{◌≡◌, ◌⊎◌, ℕ, false, true, Option, None, Result, is_err}
use Rattle.std.specs.declared.net.socket_addr.SocketAddr.{SocketAddr}
use Rattle.change_core.specs.declared.addresses.Address.{Address}
use Rattle.message_core.specs.declared.messages.Message.{Message}
use Rattle.peer_core.specs.declared.errors.LinkError.{LinkError}
use Rattle.transport.specs.Limits.{limit_for}
use Rattle.transport.specs.Sockets.{Dialled, IsSocketOf}
use Rattle.kept_links.specs.Exchanges.{failures_over, keeps_over, limits_over, net_over}
use Rattle.kept_links.specs.declared.kept_links.KeptLink.{KeptLink}
use Rattle.agent_node.specs.declared.peer_links.PeerLink.{PeerLink}

-- how often a link has failed
abbrev pub failures_by : {R N : Type 0} → PeerLink R N → ℕ
failures_by link = failures_over link.link

-- the network that a link uses
abbrev pub net_by : {R N : Type 0} → PeerLink R N → N
net_by link = net_over link.link

-- The network of a link was asked once at most for a connection, to the socket of the address. If it gave none, or was not asked and the link keeps none, the
-- call failed.
abbrev pub ConnectsAtMostOnce : {N C P S : Type 0} → Dialled N S → Address → Message → Result Message LinkError → KeptLink N C P → KeptLink N C P → Type 0
ConnectsAtMostOnce {N} {C} {P} {S} dialled to message answer old new =
    ((socket : SocketAddr) × IsSocketOf to socket × ((connection : Option S)
    × dialled socket (limit_for (limits_over old) message.content) connection (net_over old) (net_over new) × (connection ≡ None → is_err answer ≡ true)))
    ⊎ ((net_over new ≡ net_over old) × (keeps_over old message.content ≡ false → is_err answer ≡ true))
