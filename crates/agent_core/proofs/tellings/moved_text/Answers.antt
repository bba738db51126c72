use Rattle.std.proofs.Common.{◌∙◌, ◌++◌, ◌∷◌, [], ap, codes}
use Rattle.agent_core.specs.Tellings.{before_text, ring_part}
use Rattle.agent_core.proofs.tellings.moved_text.Goals as goal

pub returns : goal.returns
returns c =
    let a0 = c.in_ok-push_ring.ensures ∙ ap (λ z. z ++ ring_part c.args.now.now) c.in_ok-text.ensures.ok in
    let a1 = c.in_ok-push_str.ensures.bytes ∙ ap (λ z. z ++ codes ",\"before\":") a0 in
    let a2 = c.in_ok-push_before.ensures ∙ ap (λ z. z ++ before_text c.args.before.now) a1 in
    c.in_ok-push_str-2.ensures.bytes ∙ ap (λ z. z ++ (codes "}" ++ 10 ∷ [])) a2
