use Rattle.std.proofs.Common.{◌≡◌, ◌≤◌, length, take, vec_len, vec_capacity}
use Rattle.cli_core.proofs.RingServers.{listed}
use Rattle.cli_core.proofs.owners.servers_among.Given as goal

-- the members so far that serve are listed, and there is room for the others
abbrev pub invariant-members : goal.invariant-members
invariant-members l = record {
  so_far : l.servers.items ≡ listed (take l.member-index l.members);
  few : vec_len l.servers ≤ l.member-index;
  roomy : length l.members ≤ vec_capacity l.servers;
}
