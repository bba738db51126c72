use Rattle.agent_node.specs.Calling.{Looks}
use Rattle.agent_node.proofs.Called.{as_seen, looked_once}
use Rattle.agent_node.proofs.callers.Caller.view.Goals as goal

pub returns-clause-did : goal.returns-clause-did
returns-clause-did g c =
    as_seen Looks c.allowed.result c.args.self.now _ _ _ _ c.self.view_is c.deref.ensures
    (looked_once _ _ _ _ c.view.result c.allowed.result c.view.ensures.called c.view.ensures.refused c.allowed.ensures)
