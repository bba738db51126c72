use Rattle.std.proofs.Common.{◌∙◌, ◌++◌, ap, arith, string_bytes}
use Rattle.agent_core.specs.Texts.{server_text}
use Rattle.agent_core.proofs.Joining.{grows-first, grows-more}
use Rattle.agent_core.proofs.texts.push_servers.Goals as goal
use Rattle.agent_core.proofs.texts.push_servers.Goals.{then-i-gt0+in_ok-push_str, else-i-gt0}

pub loop-i-preserved : goal.loop-i-preserved
loop-i-preserved c =
    let server = c.index-servers-i.result in
    elim c.if-i-gt0.branch [
      | then-i-gt0+in_ok-push_str w ↦
          grows-more server_text c.args.servers.now c.loop-i.i server (string_bytes c.args.text.now) (string_bytes c.loop-i.text) _ (omega arith) (omega arith) c.index-servers-i.is c.loop-i.invariant
          (c.in_ok-push_server.ensures ∙ ap (λ t. string_bytes t ++ server_text server) w.text-is ∙ ap (λ z. z ++ server_text server) w.in_ok-push_str.ensures.bytes)
      | else-i-gt0 w ↦
          grows-first server_text c.args.servers.now c.loop-i.i server (string_bytes c.args.text.now) (string_bytes c.loop-i.text) _ (omega arith) (omega arith) c.index-servers-i.is c.loop-i.invariant
          (c.in_ok-push_server.ensures ∙ ap (λ t. string_bytes t ++ server_text server) w.text-is)
    ]
