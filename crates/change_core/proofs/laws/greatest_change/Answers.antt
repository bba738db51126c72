use Rattle.change_core.proofs.Members.{IsGreatest-greatest, greatest-IsGreatest}
use Rattle.change_core.proofs.MemberLaws.{Overrides-greatest, unnamed-None}
use Rattle.change_core.proofs.laws.greatest_change.Goals as goal

pub returns-clause-stands : goal.returns-clause-stands
returns-clause-stands c = λ L a d. (IsGreatest-greatest L a d, greatest-IsGreatest L a d)

pub returns-clause-exceeds_all : goal.returns-clause-exceeds_all
returns-clause-exceeds_all c = Overrides-greatest

pub returns-clause-unnamed : goal.returns-clause-unnamed
returns-clause-unnamed c = unnamed-None
