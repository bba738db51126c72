use Rattle.node_core.proofs.Agreeing.{agree_still}
use Rattle.locked_node.specs.Agreement.{log_closed}
use Rattle.locked_node.specs.Passes.{opening_of}
use Rattle.locked_node.proofs.laws.agreement.Goals as goal

pub returns : goal.returns
returns g c = λ x y xs ys a b p q.
    agree_still g.H.PointHash.hash_of (opening_of x) (opening_of y) a b (log_closed x xs a p) (log_closed y ys b q) p.is_log q.is_log p.itself q.itself
