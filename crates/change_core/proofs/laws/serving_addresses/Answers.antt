use Rattle.change_core.proofs.Increasing.{IsStrictlyIncreasing-serving}
use Rattle.change_core.proofs.MemberLaws.{Contains-serving}
use Rattle.change_core.proofs.laws.serving_addresses.Goals as goal

pub returns-clause-exactly : goal.returns-clause-exactly
returns-clause-exactly c = Contains-serving

pub returns-clause-increasing : goal.returns-clause-increasing
returns-clause-increasing c = IsStrictlyIncreasing-serving
