use Rattle.std.proofs.Common.{◌*◌, ◌≤◌, take}
use Rattle.change_core.specs.Ascending.{In}
use Rattle.hash_ring.specs.declared.servers.Server.{Server}
use Rattle.hash_ring.proofs.builds.most_points.Given as goal

-- the most of those so far
abbrev pub invariant-loop-server : goal.invariant-loop-server
invariant-loop-server l = record {
  most : (s : Server) → In s (take l.server-index l.servers) → l.replicas * s.weight ≤ l.most;
}
