use Rattle.std.proofs.Common.{◌∙◌, ◌++◌, ap, arith, string_bytes}
use Rattle.agent_core.specs.Texts.{quoted}
use Rattle.agent_core.proofs.Joining.{grows-first, grows-more}
use Rattle.agent_core.proofs.texts.push_quoted.Goals as goal
use Rattle.agent_core.proofs.texts.push_quoted.Goals.{then-i-gt0+in_ok-push_str, else-i-gt0}

pub loop-i-preserved : goal.loop-i-preserved
loop-i-preserved c =
    let address = c.index-addresses-i.result in
    elim c.if-i-gt0.branch [
      | then-i-gt0+in_ok-push_str w ↦
          grows-more quoted c.args.addresses.now c.loop-i.i address (string_bytes c.args.text.now) (string_bytes c.loop-i.text) _ (omega arith) (omega arith) c.index-addresses-i.is c.loop-i.invariant
          (c.in_ok-write.ensures.bytes ∙ ap (λ t. string_bytes t ++ quoted address) w.text-is ∙ ap (λ z. z ++ quoted address) w.in_ok-push_str.ensures.bytes)
      | else-i-gt0 w ↦
          grows-first quoted c.args.addresses.now c.loop-i.i address (string_bytes c.args.text.now) (string_bytes c.loop-i.text) _ (omega arith) (omega arith) c.index-addresses-i.is c.loop-i.invariant
          (c.in_ok-write.ensures.bytes ∙ ap (λ t. string_bytes t ++ quoted address) w.text-is)
    ]
