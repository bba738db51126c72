use Rattle.std.proofs.Common.{◌<◌, ◌≤◌, ap, length, refl, rules}
use Rattle.std.proofs.lemmas.Result.{err_from_is_err_and}
use Rattle.cli_core.specs.Simulated.{most_messages, nodes_in}
use Rattle.cli_core.proofs.ScriptCommands.{place_known, simulated_of, send_refused}
use Rattle.cli_core.proofs.scripts.simulation.Simulation.send.Goals as goal

pub returns-then-len-ge-MAX_MESSAGES-clause-fault : goal.returns-then-len-ge-MAX_MESSAGES-clause-fault
returns-then-len-ge-MAX_MESSAGES-clause-fault g c =
    let many : most_messages ≤ length c.self.inside.messages.items = search rules in
    rw (← c.self.view_is) (place_known c.self.inside.nodes.items c.args.address c.in-Some.place (rw c.as_slice.ensures.value at c.in-Some.ensures.place), many)

pub returns-in_err-message-clause-fault : goal.returns-in_err-message-clause-fault
returns-in_err-message-clause-fault g c =
    let p = err_from_is_err_and c.from_residual.result c.from_residual.ensures.1 in
    let few : length c.self.inside.messages.items < most_messages = search rules in
    rw (← c.self.view_is, p.1, p.2, c.in_err-message.ensures.fault) (place_known c.self.inside.nodes.items c.args.address c.in-Some.place (rw c.as_slice.ensures.value at c.in-Some.ensures.place), few)

pub returns-in_err-number-clause-fault : goal.returns-in_err-number-clause-fault
returns-in_err-number-clause-fault g c =
    let p = err_from_is_err_and c.from_residual-in_err-number.result c.from_residual-in_err-number.ensures.1 in
    rw (← c.self.view_is, p.1, p.2) (send_refused g.H.PointHash.hash_of
    (simulated_of c.self.inside.hash c.self.inside.replicas c.self.inside.moment (nodes_in c.self.inside.nodes.items) c.self.inside.messages.items)
    c.args.address c.args.target _ (place_known c.self.inside.nodes.items c.args.address c.in-Some.place (rw c.as_slice.ensures.value at c.in-Some.ensures.place)) c.in_err-number.ensures.fault)

pub returns-clause-answer : goal.returns-clause-answer
returns-clause-answer g c =
    let kept = c.in_ok-number.ensures.number in
    rw (← c.self.view_is) (
      nodes_in c.ping_at.new.nodes.items,
      c.in_ok-message.message,
      c.in_ok-message.ensures.message,
      kept.0,
      kept.1,
      ap (λ ms. simulated_of c.self.inside.hash c.self.inside.replicas c.self.inside.moment (nodes_in c.ping_at.new.nodes.items) ms) kept.2,
    )

pub returns-in_default-clause-fault : goal.returns-in_default-clause-fault
returns-in_default-clause-fault g c = rw (← c.self.view_is) (rw c.as_slice.ensures.value at (c.in_default.ensures.none refl))
