use Rattle.std.proofs.Common.{sym, ◌∙◌}
use Rattle.node_core.proofs.Answering.{AreParts-issued, seen_in-unissued}
use Rattle.node_core.proofs.node.NodeState.news_for.Goals as goal

pub invariant_of-self-2 : goal.invariant_of-self-2
invariant_of-self-2 g c =
    rw c.keep_digest.ensures.same (AreParts-issued g.H.PointHash.hash_of _ c.self.invariant c.args.target c.issue_for.new.self c.in_ok-issued.ensures.ok)

pub returns-clause-nothing : goal.returns-clause-nothing
returns-clause-nothing g c =
    rw c.keep_digest.ensures.same (λ e. seen_in-unissued g.H.PointHash.hash_of _ c.self.invariant c.args.target c.issue_for.new.self c.in_ok-issued.ensures.ok
    (sym c.in_ok-issued.ensures.issued ∙ sym c.fitting.ensures ∙ e)
    ∙ c.self.view_is)
