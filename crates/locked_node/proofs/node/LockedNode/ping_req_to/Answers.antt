use Rattle.locked_node.proofs.node.LockedNode.ping_req_to.Goals as goal

pub returns-clause-called : goal.returns-clause-called
returns-clause-called g c = c.turn.ensures.called
