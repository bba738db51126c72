-- A join of a node with others: a Join to each host in turn, and each Joined processed. Joining is ringpop-go's, package swim.
use Rattle.std.specs.Prelude.{ℕ, zero, suc, ◌+◌, Bool, true, false, List, [], ◌∷◌}
use Rattle.change_core.specs.declared.addresses.Address.{Address}
use Rattle.node_core.specs.Log.{one_if}
use Rattle.peer_core.specs.declared.errors.ClusterError.TheVariants as error
use Rattle.peer_core.specs.declared.hearing.Heard.{Heard}
use Rattle.peer_core.specs.declared.hearing.Heard.TheVariants as heard
use Rattle.peer_core.specs.Asking.{Applied}
use Rattle.peer_core.specs.Links.{MayAnswer}
use Rattle.peer_core.specs.Parts.{Part, Asks, Gives, Fails, Next}
use Rattle.peer_core.specs.Rounds.{Takes}

module _ {H : Type 0} where
  -- a host was asked: its Joined is processed, whatever the result, and it is one that joined; out of memory is the error of the join
  abbrev pub HearsHost : ℕ → Heard → Part H Bool
  HearsHost now (heard.Answer joined) = Next (Takes now joined) (λ u. Gives true)
  HearsHost now heard.Other = Gives false
  HearsHost now heard.OutOfMemory = Fails error.Memory

  -- none joined, or this number
  abbrev pub Counts : ℕ → Part H ℕ
  Counts zero = Fails error.NoneJoined
  Counts (suc n) = Gives (suc n)

module _ {H : Type 0} (Came : MayAnswer) (now : ℕ) where
  -- a host is asked once to admit the node
  abbrev pub JoinsHost : Address → Part H Bool
  JoinsHost host = Next (Asks (Applied Came host)) (HearsHost now)

  -- the hosts are asked in their order; the number of those that joined is added to n
  abbrev pub JoinsHosts : ℕ → List Address → Part H ℕ
  JoinsHosts n [] = Gives n
  JoinsHosts n (h ∷ hs) = Next (JoinsHost h) (λ joined. JoinsHosts (n + one_if joined) hs)

  -- a join at this moment: every host is asked, and the number of those that joined is the result, if there is one
  abbrev pub IsJoin : List Address → Part H ℕ
  IsJoin hosts = Next (JoinsHosts 0 hosts) Counts
