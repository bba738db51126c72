use Rattle.std.proofs.Common.{◌≡◌, ◌∙◌, ◌++◌, ◌∷◌, [], ap, codes, rules, string_bytes, length, append_assoc}
use Rattle.change_core.specs.Digest.{digest_digits}
use Rattle.agent_core.specs.Texts.{members_head, members_list}
use Rattle.agent_core.proofs.texts.members_text.Goals as goal

pub returns : goal.returns
returns c =
    let head = members_head c.args.own (digest_digits c.args.digest.now.bytes) c.args.replicas (length c.args.members.now) in
    let list = members_list c.args.members.now in
    let end = codes "]}" ++ 10 ∷ [] in
    let written : string_bytes c.in_ok-text.text ≡ members_head c.args.own c.as_str-digits.result.now c.args.replicas (length c.args.members.now) = search rules in
    let first : string_bytes c.in_ok-text.text ≡ head = written ∙ ap (λ d. members_head c.args.own d c.args.replicas (length c.args.members.now)) (c.as_str-digits.ensures ∙ c.of-digits.ensures.text) in
    c.in_ok-push_str.ensures.bytes
    ∙ ap (λ z. z ++ end) (c.in_ok-push_members.ensures ∙ ap (λ z. z ++ list) first)
    ∙ append_assoc head list end
