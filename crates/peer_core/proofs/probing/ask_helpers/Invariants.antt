use Rattle.std.proofs.Common.{[], drop}
use Rattle.locked_node.specs.Passes.{Fits}
use Rattle.peer_core.specs.Exchanges.{Sent}
use Rattle.peer_core.specs.Rounds.{AsksHelpers}
use Rattle.peer_core.proofs.Parts.{Leads}
use Rattle.peer_core.proofs.probing.ask_helpers.Given as goal

abbrev pub invariant-loop-helper : goal.invariant-loop-helper
invariant-loop-helper g l = record {
  left : Leads l.node (AsksHelpers g.L.Link.may_answer l.now l.probe l.helpers)
      (AsksHelpers g.L.Link.may_answer l.now l.probe (drop l.helper-index l.helpers)) l.initial.pass l.pass;
  sent : Sent g.L.Link.went l.node [] l.initial.pass l.pass l.initial.peers.link l.peers.link;
  fits : Fits l.node l.pass;
}
