use Rattle.std.proofs.Common.{◌≡◌, ℕ, List, sym, ◌∙◌, ap, subst}
use Rattle.std.specs.List.Sorted.{IsStrictlyIncreasing}
use Rattle.std.specs.Prelude.{MatchOption}
use Rattle.detector_core.specs.declared.prober.Probe.{Probe}
use Rattle.detector_core.specs.Picks.{IsPick}
use Rattle.node_core.specs.Node.{Seen, pingable}
use Rattle.node_core.proofs.Answering.{AreParts-picked}
use Rattle.node_core.proofs.Pinging.{pinged_rise}
use Rattle.node_core.proofs.node.NodeState.pick.Goals as goal

pub next_target-requires : goal.next_target-requires
next_target-requires g c = subst IsStrictlyIncreasing (sym c.requires) (pinged_rise c.args.self.now.node.members c.args.self.now.node.own)

pub invariant_of-self-2 : goal.invariant_of-self-2
invariant_of-self-2 g c =
    AreParts-picked g.H.PointHash.hash_of _ c.self.invariant c.in_ok-next_target.field-0 c.next_target.new.self
    (subst (λ (ts : List ℕ). MatchOption c.in_ok-next_target.field-0 (c.next_target.new.self ≡ c.self.inside.prober) (λ (q : Probe). IsPick ts c.self.inside.prober q c.next_target.new.self))
    (c.requires ∙ ap (λ (s : Seen g.row.H.Denot). pingable s.node) (sym c.self.view_is)) c.in_ok-next_target.ensures.pick)
