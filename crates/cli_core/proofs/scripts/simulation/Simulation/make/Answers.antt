use Rattle.std.proofs.Common.{◌<◌, ◌≤◌, ap, arith, length}
use Rattle.std.proofs.lemmas.List.{length-map}
use Rattle.std.proofs.lemmas.Result.{err_from_is_err_and}
use Rattle.cli_core.specs.Simulated.{most_nodes, nodes_in}
use Rattle.cli_core.proofs.ScriptCommands.{absent_place, exists_place, nodes_push, simulated_of}
use Rattle.cli_core.proofs.scripts.simulation.Simulation.make.Goals as goal

pub returns-then-is_some-clause-fault : goal.returns-then-is_some-clause-fault
returns-then-is_some-clause-fault g c =
    rw (← c.self.view_is) (exists_place c.self.inside.nodes.items c.args.birth.now.address c.place_of.result c.is_some.result c.if-is_some.true c.is_some.ensures
    (rw c.as_slice.ensures.value at c.place_of.ensures.place))

pub returns-in_err-push-clause-fault : goal.returns-in_err-push-clause-fault
returns-in_err-push-clause-fault g c =
    let seen = c.self.inside.nodes.items in
    let few : length (nodes_in seen) < most_nodes = omega (arith, c.len.ensures, c.if-len-ge-MAX_NODES.false, c.as_slice.ensures.len, ap length c.as_slice.ensures.value, length-map seen (λ s. s.node)) in
    let p = err_from_is_err_and c.from_residual-in_err-push.result c.from_residual-in_err-push.ensures.1 in
    rw (← c.self.view_is, p.1, p.2) (absent_place seen c.args.birth.now.address c.place_of.result c.is_some.result c.if-is_some.false c.is_some.ensures (rw c.as_slice.ensures.value at c.place_of.ensures.none), few)

pub returns-clause-answer : goal.returns-clause-answer
returns-clause-answer g c =
    let seen = c.self.inside.nodes.items in
    let few : length (nodes_in seen) < most_nodes = omega (arith, c.len.ensures, c.if-len-ge-MAX_NODES.false, c.as_slice.ensures.len, ap length c.as_slice.ensures.value, length-map seen (λ s. s.node)) in
    rw (← c.self.view_is) (
      absent_place seen c.args.birth.now.address c.place_of.result c.is_some.result c.if-is_some.false c.is_some.ensures (rw c.as_slice.ensures.value at c.place_of.ensures.none),
      few,
      ap (λ ns. simulated_of c.self.inside.hash c.self.inside.replicas c.self.inside.moment ns c.self.inside.messages.items)
          (nodes_push seen c.push.new.self.items c.in_ok-node.node _ c.in_ok-push.ensures.items c.in_ok-node.ensures.created),
    )

pub returns-then-len-ge-MAX_NODES-clause-fault : goal.returns-then-len-ge-MAX_NODES-clause-fault
returns-then-len-ge-MAX_NODES-clause-fault g c =
    let seen = c.self.inside.nodes.items in
    let many : most_nodes ≤ length (nodes_in seen) = omega (arith, c.len.ensures, c.if-len-ge-MAX_NODES.true, c.as_slice.ensures.len, ap length c.as_slice.ensures.value, length-map seen (λ s. s.node)) in
    rw (← c.self.view_is) (absent_place seen c.args.birth.now.address c.place_of.result c.is_some.result c.if-is_some.false c.is_some.ensures (rw c.as_slice.ensures.value at c.place_of.ensures.none), many)

pub returns-in_err-node-clause-fault : goal.returns-in_err-node-clause-fault
returns-in_err-node-clause-fault g c =
    let seen = c.self.inside.nodes.items in
    let few : length (nodes_in seen) < most_nodes = omega (arith, c.len.ensures, c.if-len-ge-MAX_NODES.false, c.as_slice.ensures.len, ap length c.as_slice.ensures.value, length-map seen (λ s. s.node)) in
    let p = err_from_is_err_and c.from_residual.result c.from_residual.ensures.1 in
    rw (← c.self.view_is, p.1, p.2, c.in_err-node.ensures.fault) (absent_place seen c.args.birth.now.address c.place_of.result c.is_some.result c.if-is_some.false c.is_some.ensures (rw c.as_slice.ensures.value at c.place_of.ensures.none), few)
