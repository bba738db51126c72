use Rattle.change_core.proofs.DigestTexts.{same_from_address_text, same_from_digest_text}
use Rattle.change_core.proofs.Hex.{same_from_digest_digits}
use Rattle.change_core.proofs.MemberLaws.{same_from_change_text}
use Rattle.change_core.proofs.OneText.{status_word-one}
use Rattle.change_core.proofs.laws.one_text.Goals as goal

pub returns-clause-address : goal.returns-clause-address
returns-clause-address c = same_from_address_text

pub returns-clause-digest : goal.returns-clause-digest
returns-clause-digest c = λ x y p q e. same_from_digest_digits x y p.are_bytes q.are_bytes e

pub returns-clause-status : goal.returns-clause-status
returns-clause-status c = status_word-one

pub returns-clause-change : goal.returns-clause-change
returns-clause-change c = same_from_change_text

pub returns-clause-changes : goal.returns-clause-changes
returns-clause-changes c = same_from_digest_text
