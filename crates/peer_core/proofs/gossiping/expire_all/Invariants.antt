use Rattle.locked_node.specs.Passes.{Fits}
use Rattle.peer_core.specs.Rounds.{Expires}
use Rattle.peer_core.proofs.Parts.{Leads}
use Rattle.peer_core.proofs.gossiping.expire_all.Given as goal

abbrev pub invariant-loop : goal.invariant-loop
invariant-loop g l = record {
  left : Leads l.node (Expires l.now) (Expires l.now) l.initial.pass l.pass;
  fits : Fits l.node l.pass;
}
