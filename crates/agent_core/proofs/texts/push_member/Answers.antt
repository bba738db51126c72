use Rattle.std.proofs.Common.{◌∙◌, ◌++◌, ap₂, string_bytes}
use Rattle.agent_core.specs.Texts.{member_text}
use Rattle.agent_core.proofs.texts.push_member.Goals as goal

pub returns : goal.returns
returns c =
    c.in_ok-write.ensures.bytes
    ∙ ap₂ (λ i w. string_bytes c.args.text.now ++ member_text (record c.args.member.now { incarnation = i; weight = w })) c.number-incarnation.ensures.value c.number-weight.ensures.value
