use Rattle.std.proofs.Common.{sym, subst, IsAscii}
use Rattle.change_core.proofs.AddressTexts.{IsAscii-address_text}
use Rattle.change_core.proofs.fixed_texts.AddressText.of.Goals as goal

pub invariant_of-result : goal.invariant_of-result
invariant_of-result c = (c.put_address-len.ensures.len, subst IsAscii (sym c.put_address-len.ensures.text) (IsAscii-address_text c.args.address c.put_address-len.ensures.valid))
