use Rattle.std.proofs.Common.{◌≡◌, ◌*◌, ◌≤◌, [], take, vec_capacity}
use Rattle.change_core.specs.Ascending.{In}
use Rattle.hash_ring.specs.declared.servers.Server.{Server}
use Rattle.hash_ring.specs.Servers.{AreServers, with_each}
use Rattle.hash_ring.proofs.builds.list_servers.Given as goal

-- those so far are put in, with room for each one's points
abbrev pub invariant-loop-server : goal.invariant-loop-server
invariant-loop-server l = record {
  listed : l.list.items ≡ with_each (take l.server-index l.servers) [];
  servers : AreServers l.list.items;
  nothing : l.late.items ≡ [];
  fits : (s : Server) → In s l.list.items → l.replicas * s.weight ≤ vec_capacity l.late;
}
