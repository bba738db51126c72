use Rattle.change_core.proofs.MemberLaws.{IsInserted-unknown, IsReplaced-newer, members-overridden}
use Rattle.change_core.proofs.laws.one_change_more.Goals as goal

pub returns-clause-unknown : goal.returns-clause-unknown
returns-clause-unknown c = IsInserted-unknown

pub returns-clause-newer : goal.returns-clause-newer
returns-clause-newer c = IsReplaced-newer

pub returns-clause-old : goal.returns-clause-old
returns-clause-old c = members-overridden
