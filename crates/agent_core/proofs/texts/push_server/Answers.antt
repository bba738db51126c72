use Rattle.std.proofs.Common.{◌∙◌, ◌++◌, ap, string_bytes}
use Rattle.agent_core.specs.Texts.{server_text}
use Rattle.agent_core.proofs.texts.push_server.Goals as goal

pub returns : goal.returns
returns c =
    c.in_ok-write.ensures.bytes
    ∙ ap (λ w. string_bytes c.args.text.now ++ server_text (record c.args.server.now { weight = w })) c.number-weight.ensures.value
