-- The answers of a link that keeps no connection came over its network's connections.
use Rattle.std.proofs.Common.{◌≡◌, ◌⊎◌, ℕ, Bool, true, false, IsTrue, List, Option, Some, None, Result, Ok, Err, inl, inr, subst}
use Rattle.std.specs.declared.net.socket_addr.SocketAddr.{SocketAddr}
use Rattle.change_core.specs.declared.addresses.Address.{Address}
use Rattle.message_core.specs.declared.messages.Message.{Message}
use Rattle.peer_core.specs.declared.errors.LinkError.{LinkError}
use Rattle.peer_core.specs.declared.errors.LinkError.TheVariants.{Io}
use Rattle.transport.specs.Sockets.{Dialled, IsSocketOf}
use Rattle.kept_links.specs.Exchanges.{CallsKept, GoesOver, IsAnsweredFrom, IsAskedAs, IsSentAs, Takes, cluster_over, keeps_over, net_over, spares_over}
use Rattle.kept_links.specs.declared.kept_links.KeptLink.{KeptLink}
use Rattle.cli_net.specs.Dialled.{dialled}

module _ {S : Type 0} (leads : SocketAddr → S → Type 0) (contents remaining : S → Option (List ℕ)) (cluster : Option (List ℕ)) (to : Address) (message m : Message) where
  sent : (is_kept : Bool) (line : List ℕ) (socket : SocketAddr) (fresh : S) → is_kept ≡ false → IsSocketOf to socket → leads socket fresh
      → IsSentAs cluster is_kept message line → IsAskedAs contents remaining cluster line fresh m → dialled leads contents remaining cluster to message (Ok m)
  sent is_kept line socket fresh unkept at led (inl same) asked =
      (fresh, (socket, at, led), subst (λ (l : List ℕ). IsAskedAs contents remaining cluster l fresh m) same asked)
  sent is_kept line socket fresh unkept at led (inr marked) asked =
      let never : false ≡ true = subst IsTrue unkept marked.0 in cc

  came_from : (is_kept : Bool) (socket : SocketAddr) (connection : Option S) → is_kept ≡ false → IsSocketOf to socket
      → IsAnsweredFrom contents remaining cluster leads socket is_kept message connection (Ok m) → dialled leads contents remaining cluster to message (Ok m)
  came_from is_kept socket None unkept at is = let never : Ok m ≡ Err Io = is in cc
  came_from is_kept socket (Some fresh) unkept at is = sent is_kept is.1.0 socket fresh unkept at is.0 is.1.1 is.1.2

module _ {N C P S : Type 0} (dials : Dialled N S) (leads : SocketAddr → S → Type 0) (took : Address → Option S → P → P → Type 0)
    (contents remaining : S → Option (List ℕ)) (to : Address) (message : Message) (old new : KeptLink N C P) (unkept : keeps_over old message.content ≡ false) where
  -- no connection that rested was taken
  untaken : (is_kept : Bool) (spare : Option S) → is_kept ≡ false → Takes took is_kept to spare (spares_over old) (spares_over new) → spare ≡ None
  untaken false spare kept takes = takes.0
  untaken true spare kept takes = let never : true ≡ false = kept in cc

  over : (m : Message) (spare : Option S) → spare ≡ None → GoesOver dials leads took contents remaining spare to message (Ok m) old new
      → dialled leads contents remaining (cluster_over old) to message (Ok m)
  over m None none once =
      came_from leads contents remaining (cluster_over old) to message m (keeps_over old message.content) once.0 once.2.0 unkept once.1 once.2.2
  over m (Some spare) none goes = let never : Some spare ≡ None = none in cc

  by_call : (m : Message) → ((spare : Option S) × Takes took (keeps_over old message.content) to spare (spares_over old) (spares_over new)
      × GoesOver dials leads took contents remaining spare to message (Ok m) old new)
      ⊎ ((net_over new ≡ net_over old) × (spares_over new ≡ spares_over old) × ((e : LinkError) × (Ok m ≡ Err e)))
      → dialled leads contents remaining (cluster_over old) to message (Ok m)
  by_call m (inl took_one) = over m took_one.0 (untaken (keeps_over old message.content) took_one.0 unkept took_one.1) took_one.2
  by_call m (inr fault) = let never : Ok m ≡ Err fault.2.0 = fault.2.1 in cc

  -- so did the answer to a call
  pub exchanged : (cluster : Option (List ℕ)) (answer : Result Message LinkError) → cluster_over old ≡ cluster
      → CallsKept dials leads took contents remaining to message answer old new → dialled leads contents remaining cluster to message answer
  exchanged cluster (Err e) of calls = tt
  exchanged cluster (Ok m) of calls = subst (λ (it : Option (List ℕ)). dialled leads contents remaining it to message (Ok m)) of (by_call m calls.2)
