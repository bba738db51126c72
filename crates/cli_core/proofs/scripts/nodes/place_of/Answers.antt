use Rattle.std.proofs.Common.{ap}
use Rattle.change_core.specs.declared.changes.Change.{Change}
use Rattle.node_core.specs.Node.{own_change}
use Rattle.cli_core.proofs.ScriptPlaces.{found_place, no_place, none_yet, not_before, other_address, that_address, whole_before}
use Rattle.cli_core.proofs.scripts.nodes.place_of.Goals as goal

pub nodes-init : goal.nodes-init
nodes-init g c = none_yet c.args.nodes.now c.args.address

pub nodes-preserved : goal.nodes-preserved
nodes-preserved g c =
    let own = ap (λ (d : Change). d.address) c.own-own.ensures in
    not_before c.args.nodes.now c.args.address c.nodes.place c.index-nodes-place.result c.nodes-test.true c.index-nodes-place.is
    (other_address c.eq.result c.own-own.result.address c.args.address (own_change c.index-nodes-place.result.node).address c.if-eq.false c.eq.ensures own) c.nodes.invariant

pub returns-then-eq-clause-place : goal.returns-then-eq-clause-place
returns-then-eq-clause-place g c =
    let own = ap (λ (d : Change). d.address) c.own-own.ensures in
    found_place c.args.nodes.now c.args.address c.nodes.place c.index-nodes-place.result c.nodes-test.true c.index-nodes-place.is
    (that_address c.eq.result c.own-own.result.address c.args.address (own_change c.index-nodes-place.result.node).address c.if-eq.true c.eq.ensures own) c.nodes.invariant

pub returns-clause-none : goal.returns-clause-none
returns-clause-none g c = λ q. no_place c.args.nodes.now c.args.address (whole_before c.args.nodes.now c.args.address c.nodes.place c.nodes-test.false c.nodes.invariant)
