use Rattle.gossip_core.proofs.IssueLaws.{sum_by-counted}
use Rattle.gossip_core.proofs.laws.issued_count_one_more.Goals as goal

pub returns : goal.returns
returns c = sum_by-counted
