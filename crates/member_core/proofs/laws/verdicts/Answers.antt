use Rattle.member_core.proofs.Judging.{judged-Full, judged-Exhausted, judged-Refute, judged-Take}
use Rattle.member_core.proofs.laws.verdicts.Goals as goal

pub returns-clause-full : goal.returns-clause-full
returns-clause-full c = judged-Full

pub returns-clause-exhausted : goal.returns-clause-exhausted
returns-clause-exhausted c = judged-Exhausted

pub returns-clause-refuted : goal.returns-clause-refuted
returns-clause-refuted c = judged-Refute

pub returns-clause-taken : goal.returns-clause-taken
returns-clause-taken c = judged-Take
