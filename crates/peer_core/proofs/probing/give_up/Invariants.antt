use Rattle.std.proofs.Common.{[]}
use Rattle.locked_node.specs.Passes.{Fits}
use Rattle.peer_core.specs.Exchanges.{Sent}
use Rattle.peer_core.specs.Rounds.{GivesUp}
use Rattle.peer_core.proofs.Parts.{Leads}
use Rattle.peer_core.proofs.probing.give_up.Given as goal

abbrev pub invariant-loop : goal.invariant-loop
invariant-loop g l = record {
  left : Leads l.node (GivesUp g.L.Link.may_answer l.now l.probe) (GivesUp g.L.Link.may_answer l.now l.probe) l.initial.pass l.pass;
  sent : Sent g.L.Link.went l.node [] l.initial.pass l.pass l.initial.peers.link l.peers.link;
  fits : Fits l.node l.pass;
}
