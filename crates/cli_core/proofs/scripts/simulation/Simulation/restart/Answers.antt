use Rattle.std.proofs.Common.{◌<◌, ◌≤◌, ap, arith, refl}
use Rattle.std.proofs.lemmas.Result.{err_from_is_err_and}
use Rattle.cli_core.proofs.ScriptCommands.{held_below, held_not_below, restarted, simulated_of}
use Rattle.cli_core.specs.Simulated.{nodes_in, with_node}
use Rattle.cli_core.proofs.scripts.simulation.Simulation.restart.Goals as goal

pub returns-then-number-clause-fault : goal.returns-then-number-clause-fault
returns-then-number-clause-fault g c =
    let below : c.args.birth.now.incarnation ≤ c.incarnation_at-held.result = omega (arith, c.if-number.true, c.number.ensures.value, c.number-2.ensures.value) in
    rw (← c.self.view_is) (held_not_below c.self.inside.nodes.items c.args.birth.now.address c.in-Some.place c.incarnation_at-held.result c.args.birth.now.incarnation
    (rw c.as_slice.ensures.value at c.in-Some.ensures.place) (rw c.as_slice-2.ensures.value at c.incarnation_at-held.ensures) below)

pub returns-in_err-node-clause-fault : goal.returns-in_err-node-clause-fault
returns-in_err-node-clause-fault g c =
    let p = err_from_is_err_and c.from_residual.result c.from_residual.ensures.1 in
    let above : c.incarnation_at-held.result < c.args.birth.now.incarnation = omega (arith, c.if-number.false, c.number.ensures.value, c.number-2.ensures.value) in
    rw (← c.self.view_is, p.1, p.2, c.in_err-node.ensures.fault) (held_below c.self.inside.nodes.items c.args.birth.now.address c.in-Some.place c.incarnation_at-held.result c.args.birth.now.incarnation
    (rw c.as_slice.ensures.value at c.in-Some.ensures.place) (rw c.as_slice-2.ensures.value at c.incarnation_at-held.ensures) above)

pub returns-clause-answer : goal.returns-clause-answer
returns-clause-answer g c =
    let above : c.incarnation_at-held.result < c.args.birth.now.incarnation = omega (arith, c.if-number.false, c.number.ensures.value, c.number-2.ensures.value) in
    rw (← c.self.view_is) (
      with_node (nodes_in c.self.inside.nodes.items) c.args.birth.now.address c.in_ok-node.node.node,
      restarted c.self.inside.nodes.items c.args.birth.now.address c.in-Some.place c.incarnation_at-held.result c.args.birth.now.incarnation c.in_ok-node.node.node _
          (rw c.as_slice.ensures.value at c.in-Some.ensures.place) (rw c.as_slice-2.ensures.value at c.incarnation_at-held.ensures) above c.in_ok-node.ensures.created,
      ap (λ ns. simulated_of c.self.inside.hash c.self.inside.replicas c.self.inside.moment ns c.self.inside.messages.items) c.put_at.ensures,
    )

pub returns-in_default-clause-fault : goal.returns-in_default-clause-fault
returns-in_default-clause-fault g c = rw (← c.self.view_is) (rw c.as_slice.ensures.value at (c.in_default.ensures.none refl))
