use Rattle.ringpop_c.proofs.Sights.{views_name_owners}
use Rattle.ringpop_c.proofs.laws.view_owners.Goals as goal

pub returns : goal.returns
returns c = views_name_owners
