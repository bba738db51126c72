use Rattle.std.proofs.Common.{◌≡◌, ℕ, List, sym, ◌∙◌, ap, subst}
use Rattle.detector_core.specs.declared.prober.Lost.{Lost}
use Rattle.detector_core.specs.declared.prober.Lost.TheVariants.{Ask}
use Rattle.detector_core.specs.Choices.{sample}
use Rattle.detector_core.specs.Helpers.{others}
use Rattle.detector_core.specs.Picks.{IsDrawnLoss, WasLost}
use Rattle.detector_core.specs.Probing.{choices}
use Rattle.node_core.specs.Node.{Seen, pingable}
use Rattle.node_core.proofs.Answering.{AreParts-asked}
use Rattle.node_core.proofs.node.NodeState.ask.Goals as goal

pub invariant_of-self-in-Ask : goal.invariant_of-self-in-Ask
invariant_of-self-in-Ask g c =
    let lost = c.in_ok-helpers.ensures.ok in
    AreParts-asked g.H.PointHash.hash_of _ c.self.invariant c.args.number lost.0 c.in-Ask.helpers c.lost.new.self lost.1
    (subst (λ (ts : List ℕ). WasLost ts lost.0 c.self.inside.prober (Ask c.in-Ask.helpers) c.lost.new.self)
    (c.deref.ensures.value ∙ c.in_ok-pingable.ensures.list ∙ ap (λ (s : Seen g.row.H.Denot). pingable s.node) (sym c.self.view_is))
    (subst (λ (l : Lost). WasLost c.deref.result.now lost.0 c.self.inside.prober l c.lost.new.self) c.in-Ask.is lost.2))

pub returns-clause-drawn : goal.returns-clause-drawn
returns-clause-drawn g c = rw (← c.self.view_is) (λ target e.
    let prober = c.self.inside.prober in
    let pinged = c.deref.ensures.value ∙ c.in_ok-pingable.ensures.list ∙ ap (λ (s : Seen g.row.H.Denot). pingable s.node) (sym c.self.view_is) in
    let drawn = subst (λ (l : Lost). IsDrawnLoss c.deref.result.now target prober l c.lost.new.self) c.in-Ask.is (c.in_ok-helpers.ensures.drawn target e) in
    ap (λ (ts : List ℕ). sample (others ts target) prober.helpers (choices prober)) (sym pinged)
    ∙ drawn
    ∙ ap (λ (s : Seen g.row.H.Denot). (c.in-Ask.helpers, choices s.node.probing)) (sym c.advance.ensures))
