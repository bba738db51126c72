use Rattle.peer_core.specs.Handling.{between}
use Rattle.agent_peers.proofs.Asking.{answered_here, asks_noted, noted_never, noted_once}
use Rattle.agent_node.specs.Noting.{notes_handling}
use Rattle.agent_peers.proofs.hands.own_answer.Goals as goal

pub returns : goal.returns
returns g c =
    let handled = g.A.HandlerMut.handled in
    let was = c.args.handler.now in
    let is = c.respond.new.handler in
    record {
      answered = answered_here (between (notes_handling handled) was is) (asks_noted handled was is c.requires is.was_asked) (noted_once handled was is c.requires)
          (noted_never handled was is c.requires) c.now-now.result c.args.job.now.input c.respond.result c.args.caller.now c.respond.new.self
          c.respond.ensures.node c.respond.ensures.sent c.respond.ensures.silent;
    }
