use Rattle.change_core.proofs.Members.{IsMemberList-members, greatest-members}
use Rattle.change_core.proofs.MemberLaws.{Contains-members}
use Rattle.change_core.proofs.laws.members_are_greatest.Goals as goal

pub returns-clause-exactly : goal.returns-clause-exactly
returns-clause-exactly c = Contains-members

pub returns-clause-ascending : goal.returns-clause-ascending
returns-clause-ascending c = IsMemberList-members

pub returns-clause-same_greatest : goal.returns-clause-same_greatest
returns-clause-same_greatest c = greatest-members
