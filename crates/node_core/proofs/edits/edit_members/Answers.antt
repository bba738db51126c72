use Rattle.std.proofs.Common.{ap, subst, sym, ◌∙◌}
use Rattle.member_core.specs.Membership.{Membership}
use Rattle.node_core.specs.Edits.{entry_in, MayEdit}
use Rattle.node_core.proofs.Editing.{address-committed, members-put}
use Rattle.node_core.proofs.edits.edit_members.Goals as goal

pub returns-in-Judged-clause-value : goal.returns-in-Judged-clause-value
returns-in-Judged-clause-value c entry e =
    ap (λ (m : Membership). m.members) c.commit.ensures.value
    ∙ members-put c.args.members.now c.requires.valid c.in-Judged.verdict (subst (MayEdit c.args.members.now) c.in-Judged.is c.requires.may) entry (ap entry_in (sym c.in-Judged.is) ∙ e)

pub returns-in-Judged-clause-own : goal.returns-in-Judged-clause-own
returns-in-Judged-clause-own c =
    ap (λ (m : Membership). m.own.address) c.commit.ensures.value
    ∙ address-committed c.args.members.now c.requires.valid c.in-Judged.verdict (subst (MayEdit c.args.members.now) c.in-Judged.is c.requires.may)
