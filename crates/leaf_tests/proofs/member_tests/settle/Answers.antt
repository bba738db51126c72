use Rattle.std.proofs.Common.{sym, subst}
use Rattle.member_core.proofs.Commits.{CanCommit-judged, Alters}
use Rattle.leaf_tests.proofs.member_tests.settle.Goals as goal

pub commit-requires : goal.commit-requires
commit-requires c = CanCommit-judged c.args.node.now c.args.given.now c.judge-verdict.result (sym c.judge-verdict.ensures) (subst Alters (sym c.in-Take.is) tt) (λ _. c.requires)

pub commit-requires-in-Refute : goal.commit-requires-in-Refute
commit-requires-in-Refute c = CanCommit-judged c.args.node.now c.args.given.now c.judge-verdict.result (sym c.judge-verdict.ensures) (subst Alters (sym c.in-Refute.is) tt) (λ _. c.requires)
