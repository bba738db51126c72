use Rattle.std.proofs.Common.{map}
use Rattle.change_core.specs.Members.{address_of_change}
use Rattle.change_core.proofs.Increasing.{IsStrictlyIncreasing-IsRising, IsRising-IsStrictlyIncreasing}
use Rattle.change_core.proofs.Members.{members-IsMemberList, IsMemberList-from_members}
use Rattle.change_core.proofs.MemberLaws.{IsMemberList-same}
use Rattle.change_core.proofs.laws.member_lists.Goals as goal

pub returns-clause-increasing : goal.returns-clause-increasing
returns-clause-increasing c = λ M. (IsStrictlyIncreasing-IsRising (map address_of_change M), IsRising-IsStrictlyIncreasing (map address_of_change M))

pub returns-clause-own_members : goal.returns-clause-own_members
returns-clause-own_members c = λ M. (members-IsMemberList M, IsMemberList-from_members M)

pub returns-clause-by_changes : goal.returns-clause-by_changes
returns-clause-by_changes c = IsMemberList-same
