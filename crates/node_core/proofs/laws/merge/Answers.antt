use Rattle.change_core.proofs.Members.{members-append}
use Rattle.node_core.proofs.Agreeing.{agree_on_all}
use Rattle.node_core.proofs.laws.merge.Goals as goal

pub returns-clause-same : goal.returns-clause-same
returns-clause-same c = agree_on_all

pub returns-clause-grouped : goal.returns-clause-grouped
returns-clause-grouped c L K = members-append L K
