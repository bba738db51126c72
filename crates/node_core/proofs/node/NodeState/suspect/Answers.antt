use Rattle.std.proofs.Common.{◌≡◌, sym, ◌∙◌, ap, subst}
use Rattle.member_core.specs.declared.verdicts.Verdict.TheVariants.{Take}
use Rattle.member_core.specs.Membership.{judged}
use Rattle.node_core.specs.Edits.{membership_of}
use Rattle.node_core.specs.Node.{Seen}
use Rattle.node_core.proofs.Suspecting.{suspicion-judged}
use Rattle.node_core.proofs.node.NodeState.suspect.Goals as goal

pub say-requires : goal.say-requires
say-requires g c =
    subst (λ (s : Seen g.row.H.Denot). judged (membership_of s.node) c.in-Some.change ≡ Take c.in-Some.change) c.self.view_is
    (suspicion-judged g.H.PointHash.hash_of _ c.self.invariant c.args.target c.in-Some.change
    (λ e. c.requires.other (e ∙ ap (λ (s : Seen g.row.H.Denot). s.node.own) c.self.view_is)) (sym c.in-Some.ensures))
