use Rattle.locked_node.specs.Passes.{opening_of}
use Rattle.locked_node.proofs.Histories.{IsNodeOf-history, history_itself}
use Rattle.locked_node.proofs.node.LockedNode.close.Goals as goal

pub returns-in-Ok-clause-closed : goal.returns-in-Ok-clause-closed
returns-in-Ok-clause-closed g c =
    let closed = c.in-Ok.ensures.closed in
    record {
      history = closed.0;
      legal = closed.1.1;
      opened = closed.1.0;
      whole_still = c.len.ensures.whole;
      itself = history_itself g.H.PointHash.hash_of (opening_of c.args.self).node closed.0 c.in-Ok.held.node.node closed.1.1;
      whole = closed.2;
      is_log = IsNodeOf-history g.H.PointHash.hash_of (opening_of c.args.self) c.in-Ok.held.node closed.0 closed.1 c.len.ensures.whole;
    }
