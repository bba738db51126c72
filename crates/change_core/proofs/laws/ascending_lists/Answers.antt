use Rattle.std.specs.Ordering.{nat_cmp}
use Rattle.change_core.specs.Ascending.{ascending}
use Rattle.change_core.proofs.Ascends.{Contains-ascending, IsRising-ascending}
use Rattle.change_core.proofs.Increasing.{IsStrictlyIncreasing-IsRising}
use Rattle.change_core.proofs.laws.ascending_lists.Goals as goal

pub returns-clause-members : goal.returns-clause-members
returns-clause-members c = Contains-ascending

pub returns-clause-increasing : goal.returns-clause-increasing
returns-clause-increasing c = λ L. IsStrictlyIncreasing-IsRising (ascending nat_cmp L) (IsRising-ascending L)
