use Rattle.std.proofs.Common.{◌∙◌, ◌++◌, ap, arith, string_bytes}
use Rattle.agent_core.specs.Texts.{member_text}
use Rattle.agent_core.proofs.Joining.{grows-first, grows-more}
use Rattle.agent_core.proofs.texts.push_members.Goals as goal
use Rattle.agent_core.proofs.texts.push_members.Goals.{then-i-gt0+in_ok-push_str, else-i-gt0}

pub loop-i-preserved : goal.loop-i-preserved
loop-i-preserved c =
    let member = c.index-members-i.result in
    elim c.if-i-gt0.branch [
      | then-i-gt0+in_ok-push_str w ↦
          grows-more member_text c.args.members.now c.loop-i.i member (string_bytes c.args.text.now) (string_bytes c.loop-i.text) _ (omega arith) (omega arith) c.index-members-i.is c.loop-i.invariant
          (c.in_ok-push_member.ensures ∙ ap (λ t. string_bytes t ++ member_text member) w.text-is ∙ ap (λ z. z ++ member_text member) w.in_ok-push_str.ensures.bytes)
      | else-i-gt0 w ↦
          grows-first member_text c.args.members.now c.loop-i.i member (string_bytes c.args.text.now) (string_bytes c.loop-i.text) _ (omega arith) (omega arith) c.index-members-i.is c.loop-i.invariant
          (c.in_ok-push_member.ensures ∙ ap (λ t. string_bytes t ++ member_text member) w.text-is)
    ]
