use Rattle.change_core.proofs.Members.{members-same, members-append, members-append_members, members-append_both}
use Rattle.change_core.proofs.SameChanges.{members-swapped, members-repeated}
use Rattle.change_core.proofs.Serving.{serving-same}
use Rattle.change_core.proofs.laws.merge.Goals as goal

pub returns-clause-members_same : goal.returns-clause-members_same
returns-clause-members_same c = members-same

pub returns-clause-serving_same : goal.returns-clause-serving_same
returns-clause-serving_same c = serving-same

pub returns-clause-in_any_order : goal.returns-clause-in_any_order
returns-clause-in_any_order c = members-swapped

pub returns-clause-grouped_before : goal.returns-clause-grouped_before
returns-clause-grouped_before c = members-append

pub returns-clause-grouped_after : goal.returns-clause-grouped_after
returns-clause-grouped_after c = members-append_members

pub returns-clause-grouped_both : goal.returns-clause-grouped_both
returns-clause-grouped_both c = members-append_both

pub returns-clause-repeated : goal.returns-clause-repeated
returns-clause-repeated c = members-repeated
