use Rattle.std.proofs.Common.{codes, ◌∙◌, ◌++◌, ap, arith, string_bytes}
use Rattle.agent_core.proofs.Joining.{grows-first, grows-more}
use Rattle.agent_api.specs.Performing.{key_text}
use Rattle.agent_api.proofs.questions.text_by.Goals as goal
use Rattle.agent_api.proofs.questions.text_by.Goals.{then-i-gt0+in_ok-push_str, else-i-gt0}

pub loop-i-preserved : goal.loop-i-preserved
loop-i-preserved c =
    let key = c.index-keys-i.result in
    let shown = key_text c.args.view.now c.args.count c.args.hidden.now in
    elim c.if-i-gt0.branch [
      | then-i-gt0+in_ok-push_str w ↦
          grows-more shown c.args.keys.now c.loop-i.i key (codes "{\"owners\":[") (string_bytes c.loop-i.text) _ (omega arith) (omega arith) c.index-keys-i.is c.loop-i.invariant
          (c.in_ok-push_key.ensures ∙ ap (λ t. string_bytes t ++ shown key) w.text-is ∙ ap (λ z. z ++ shown key) w.in_ok-push_str.ensures.bytes)
      | else-i-gt0 w ↦
          grows-first shown c.args.keys.now c.loop-i.i key (codes "{\"owners\":[") (string_bytes c.loop-i.text) _ (omega arith) (omega arith) c.index-keys-i.is c.loop-i.invariant
          (c.in_ok-push_key.ensures ∙ ap (λ t. string_bytes t ++ shown key) w.text-is)
    ]
