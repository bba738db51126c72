use Rattle.change_core.proofs.OneText.{address_text-short, status_word-short}
use Rattle.change_core.proofs.TextLengths.{change_text-short, digest_digits-length}
use Rattle.change_core.proofs.laws.text_lengths.Goals as goal

pub returns-clause-address : goal.returns-clause-address
returns-clause-address c = address_text-short

pub returns-clause-status : goal.returns-clause-status
returns-clause-status c = status_word-short

pub returns-clause-change : goal.returns-clause-change
returns-clause-change c = change_text-short

pub returns-clause-digest : goal.returns-clause-digest
returns-clause-digest c = digest_digits-length
