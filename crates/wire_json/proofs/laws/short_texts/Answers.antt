use Rattle.wire_json.proofs.ShortLines.{change_short, membership_short}
use Rattle.wire_json.proofs.laws.short_texts.Goals as goal

pub returns-clause-change : goal.returns-clause-change
returns-clause-change c = change_short

pub returns-clause-membership : goal.returns-clause-membership
returns-clause-membership c = membership_short
