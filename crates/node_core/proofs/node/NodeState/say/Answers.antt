use Rattle.std.proofs.Common.{subst}
use Rattle.change_core.specs.declared.changes.Sourced.{Sourced}
use Rattle.node_core.specs.Node.{Seen}
use Rattle.node_core.specs.Room.{WantsRoom}
use Rattle.node_core.proofs.node.NodeState.say.Goals as goal

pub returns-in-Err-clause-out_of_memory : goal.returns-in-Err-clause-out_of_memory
returns-in-Err-clause-out_of_memory g c =
    subst (λ (s : Sourced). WantsRoom c.args.self.now.node s.change) c.said-news.ensures
    (subst (λ (s : Seen g.row.H.Denot). WantsRoom s.node c.said-news.result.change) c.advance.ensures c.in-Err.ensures.out_of_memory)
