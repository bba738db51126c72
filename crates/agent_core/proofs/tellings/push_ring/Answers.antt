use Rattle.std.proofs.Common.{◌≡◌, ◌∙◌, ap, string_bytes}
use Rattle.change_core.specs.Digest.{digest_digits}
use Rattle.agent_core.specs.Texts.{servers_list}
use Rattle.agent_core.proofs.Growing.{grown, grown_as}
use Rattle.agent_core.proofs.tellings.push_ring.Goals as goal

pub returns : goal.returns
returns c =
    let text = string_bytes c.args.text.now in
    let digest : c.as_str.result.now ≡ digest_digits c.args.ring.now.digest.bytes = c.as_str.ensures ∙ c.of-digits.ensures.text in
    let a0 = c.in_ok-push_str.ensures.bytes in
    let a1 = grown_as text _ _ _ _ _ a0 c.in_ok-push_str-2.ensures.bytes digest in
    let a2 = grown text _ _ _ _ a1 c.in_ok-push_str-3.ensures.bytes in
    let a3 = grown_as text _ _ _ _ _ a2 c.in_ok-push_servers.ensures (ap servers_list c.as_slice.ensures.value) in
    grown text _ _ _ _ a3 c.in_ok-push_str-4.ensures.bytes
