use Rattle.std.proofs.Common.{refl}
use Rattle.change_core.proofs.MemberLaws.{is_refuted-Overrides, Overrides-refutation, Overrides-refutation_held, greatest-log_one, log_one-unanswered}
use Rattle.change_core.proofs.laws.refutation_holds.Goals as goal

pub returns-clause-exactly : goal.returns-clause-exactly
returns-clause-exactly c = is_refuted-Overrides

pub returns-clause-keeps : goal.returns-clause-keeps
returns-clause-keeps c = λ held given. (refl, refl)

pub returns-clause-unanswered : goal.returns-clause-unanswered
returns-clause-unanswered c = log_one-unanswered

pub returns-clause-over_given : goal.returns-clause-over_given
returns-clause-over_given c = Overrides-refutation

pub returns-clause-over_held : goal.returns-clause-over_held
returns-clause-over_held c = Overrides-refutation_held

pub returns-clause-is_held : goal.returns-clause-is_held
returns-clause-is_held c = greatest-log_one
