use Rattle.gossip_core.proofs.RunLaws.{times_issued-put}
use Rattle.gossip_core.proofs.laws.issued_within_the_limit.Goals as goal

pub returns : goal.returns
returns c = times_issued-put
