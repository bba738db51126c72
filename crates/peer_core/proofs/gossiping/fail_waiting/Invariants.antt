use Rattle.locked_node.specs.Passes.{Fits}
use Rattle.peer_core.specs.Rounds.{FailsFrom}
use Rattle.peer_core.proofs.Parts.{Leads}
use Rattle.peer_core.proofs.gossiping.fail_waiting.Given as goal

abbrev pub invariant-loop : goal.invariant-loop
invariant-loop g l = record {
  left : Leads l.node (FailsFrom l.now l.number l.initial.helper) (FailsFrom l.now l.number l.helper) l.initial.pass l.pass;
  fits : Fits l.node l.pass;
}
