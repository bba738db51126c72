-- The answers that came over a network's connections.
use Rattle.std.specs.Prelude.{ℕ, List, Option, Ok, Err}
use Rattle.std.specs.declared.net.socket_addr.SocketAddr.{SocketAddr}
use Rattle.serde_json.specs.Written.{compact_text}
use Rattle.wire_json.specs.Messages.{message_data}
use Rattle.transport.specs.Sockets.{LeadsTo}
use Rattle.cluster_names.specs.Lines.{line_sent}
use Rattle.kept_links.specs.Exchanges.{IsAskedAs}
use Rattle.peer_core.specs.Links.{MayAnswer}

-- An answer came over a stream that leads to the address, to which the message's line was written; any error may come. Where the cluster has a name both
-- lines have it. `leads` says to which socket a stream leads, `contents` what was written to it, and `remaining` what is left to read.
abbrev pub dialled : {S : Type 0} → (SocketAddr → S → Type 0) → (S → Option (List ℕ)) → (S → Option (List ℕ)) → Option (List ℕ) → MayAnswer
dialled {S} leads contents remaining cluster to message (Ok answer) =
    (fresh : S) × LeadsTo leads to fresh × IsAskedAs contents remaining cluster (line_sent cluster (compact_text (message_data message))) fresh answer
dialled leads contents remaining cluster to message (Err error) = Unit {0}
