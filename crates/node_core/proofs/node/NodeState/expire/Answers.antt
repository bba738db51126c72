use Rattle.hash_ring.proofs.Placed.{on_err}
use Rattle.node_core.specs.Expiring.{due}
use Rattle.node_core.specs.Node.{at_moment}
use Rattle.node_core.proofs.Room.{WantsRoom-expired}
use Rattle.node_core.proofs.node.NodeState.expire.Goals as goal

pub returns-in_err-say-clause-out_of_memory : goal.returns-in_err-say-clause-out_of_memory
returns-in_err-say-clause-out_of_memory g c =
    let old = c.args.self.now.node in
    on_err c.from_residual.result
    (WantsRoom-expired old (due (at_moment old c.args.moment)) c.in-Some.change c.in-Some.ensures.value c.in_err-say.ensures.out_of_memory)
