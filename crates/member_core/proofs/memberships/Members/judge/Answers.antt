use Rattle.std.proofs.Common.{sym, ◌∙◌, ap}
use Rattle.member_core.specs.Membership.{Membership, judged}
use Rattle.member_core.proofs.Commits.{judged-other}
use Rattle.member_core.proofs.memberships.Members.judge.Goals as goal

pub returns-else-eq : goal.returns-else-eq
returns-else-eq c =
    c.judge_other.ensures
    ∙ judged-other c.self.inside.own c.self.inside.entries.members c.self.inside.entries.max c.self.inside.entries.room c.args.change (sym c.eq.ensures ∙ c.if-eq.false)
    ∙ ap (λ (m : Membership). judged m c.args.change) c.self.view_is
