use Rattle.std.proofs.Common.{◌∙◌}
use Rattle.change_core.proofs.Members.{members-IsMemberList}
use Rattle.member_core.proofs.Commits.{is_news-old, judged-no_news, members-old}
use Rattle.member_core.proofs.laws.old_changes.Goals as goal

pub returns-clause-no_news : goal.returns-clause-no_news
returns-clause-no_news c = λ m d stands. (is_news-old m d stands, judged-no_news m d stands)

pub returns-clause-logged : goal.returns-clause-logged
returns-clause-logged c = λ m d stands old. members-old m d stands old ∙ members-IsMemberList m.members stands.sorted
