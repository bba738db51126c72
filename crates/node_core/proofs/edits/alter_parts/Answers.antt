use Rattle.std.proofs.Common.{[], ◌∷◌, ◌++◌, ap, ◌∙◌}
use Rattle.change_core.specs.Members.{members}
use Rattle.member_core.specs.Membership.{Membership}
use Rattle.node_core.proofs.edits.alter_parts.Goals as goal

pub returns-clause-ok_members : goal.returns-clause-ok_members
returns-clause-ok_members g c =
    c.edit_members.ensures.value c.args.news.now.change c.requires.entry
    ∙ ap (λ (m : Membership). members (m.members ++ c.args.news.now.change ∷ [])) c.make_room.ensures.members
