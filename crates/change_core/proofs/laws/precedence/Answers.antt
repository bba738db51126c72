use Rattle.change_core.proofs.Precedence.{Overrides-irrefl, Overrides-asym, Overrides-trans}
use Rattle.change_core.proofs.MemberLaws.{Overrides-total}
use Rattle.change_core.proofs.OrderLaws.{Overrides-change_cmp}
use Rattle.change_core.proofs.laws.precedence.Goals as goal

pub returns-clause-irreflexive : goal.returns-clause-irreflexive
returns-clause-irreflexive c = Overrides-irrefl

pub returns-clause-asymmetric : goal.returns-clause-asymmetric
returns-clause-asymmetric c = Overrides-asym

pub returns-clause-transitive : goal.returns-clause-transitive
returns-clause-transitive c = Overrides-trans

pub returns-clause-total : goal.returns-clause-total
returns-clause-total c = Overrides-total

pub returns-clause-sorted : goal.returns-clause-sorted
returns-clause-sorted c = Overrides-change_cmp
