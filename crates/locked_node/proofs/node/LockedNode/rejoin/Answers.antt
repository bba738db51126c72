use Rattle.locked_node.proofs.node.LockedNode.rejoin.Goals as goal

pub returns-clause-called : goal.returns-clause-called
returns-clause-called g c = c.turn.ensures.called
