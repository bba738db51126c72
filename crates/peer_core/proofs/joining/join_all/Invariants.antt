use Rattle.std.proofs.Common.{drop, ◌≤◌}
use Rattle.locked_node.specs.Passes.{Fits}
use Rattle.peer_core.specs.Joining.{JoinsHosts}
use Rattle.peer_core.proofs.Exchanges.{JoinsSome}
use Rattle.peer_core.proofs.Parts.{Leads}
use Rattle.peer_core.proofs.joining.join_all.Given as goal

abbrev pub invariant-loop-host : goal.invariant-loop-host
invariant-loop-host g l = record {
  left : Leads l.node (JoinsHosts g.L.Link.may_answer l.now 0 l.hosts)
      (JoinsHosts g.L.Link.may_answer l.now l.count (drop l.host-index l.hosts)) l.initial.pass l.pass;
  sent : JoinsSome g.L.Link.went l.node l.hosts l.host-index l.initial.pass l.pass l.initial.peers.link l.peers.link;
  fits : Fits l.node l.pass;
  few : l.count ≤ l.host-index;
}
