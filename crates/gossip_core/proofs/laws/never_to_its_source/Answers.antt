use Rattle.gossip_core.proofs.PendingLaws.{not_to_its_source}
use Rattle.gossip_core.proofs.laws.never_to_its_source.Goals as goal

pub returns : goal.returns
returns c = not_to_its_source
