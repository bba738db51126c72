use Rattle.std.proofs.Common.{[], refl}
use Rattle.change_core.proofs.DecimalTexts.{text_parts}
use Rattle.change_core.proofs.fixed_texts.put_address.Goals as goal

pub returns-clause-text : goal.returns-clause-text
returns-clause-text c =
    text_parts [] c.args.address c.ip-ip.result c.port-port.result c.port-port.result _ _ _ _ _ c.ip-ip.ensures.valid c.ip-ip.ensures.value c.port-port.ensures.value refl
    c.put_part-first.ensures.text c.put_part-second.ensures.text c.put_part-third.ensures.text c.put_part-fourth.ensures.text c.put_port.ensures.text
