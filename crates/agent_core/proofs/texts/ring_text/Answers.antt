use Rattle.std.proofs.Common.{◌≡◌, ◌∙◌, ◌++◌, ◌∷◌, [], ap, codes, string_bytes, append_assoc}
use Rattle.change_core.specs.Digest.{digest_digits}
use Rattle.agent_core.specs.Texts.{ring_head, ring_middle, servers_list}
use Rattle.agent_core.proofs.texts.ring_text.Goals as goal

pub returns : goal.returns
returns c =
    let digits = digest_digits c.args.digest.now.bytes in
    let middle = ring_middle c.args.own c.args.replicas in
    let list = servers_list c.args.servers.now in
    let end = codes "]}" ++ 10 ∷ [] in
    let digest : c.as_str.result.now ≡ digits = c.as_str.ensures ∙ c.of-digits.ensures.text in
    let head =
    c.in_ok-write.ensures.bytes
    ∙ ap (λ z. z ++ middle) (c.in_ok-push_str.ensures.bytes ∙ ap (λ d. string_bytes c.in_ok-text.text ++ d) digest ∙ ap (λ t. t ++ digits) c.in_ok-text.ensures.ok)
    ∙ append_assoc (codes "{\"ring\":\"") digits middle in
    c.in_ok-push_str-2.ensures.bytes
    ∙ ap (λ z. z ++ end) (c.in_ok-push_servers.ensures ∙ ap (λ z. z ++ list) head)
    ∙ append_assoc (ring_head digits c.args.own c.args.replicas) list end
