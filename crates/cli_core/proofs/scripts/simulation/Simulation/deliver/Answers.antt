use Rattle.std.proofs.Common.{inl, refl, sym, ap}
use Rattle.std.proofs.lemmas.Result.{err_from_is_err_and}
use Rattle.cli_core.specs.Simulated.{nodes_in}
use Rattle.cli_core.proofs.ScriptCommands.{answer_refused, simulated_of}
use Rattle.cli_core.proofs.scripts.simulation.Simulation.deliver.Goals as goal

pub returns-in_default-place_of-clause-answer : goal.returns-in_default-place_of-clause-answer
returns-in_default-place_of-clause-answer g c =
    rw (← c.self.view_is) (c.in-Some.sent.now, sym (rw c.as_slice.ensures.value at c.in-Some.ensures), rw c.as_slice-2.ensures.value at (c.in_default-place_of.ensures.none refl), refl)

pub returns-in-Done-clause-answer : goal.returns-in-Done-clause-answer
returns-in-Done-clause-answer g c =
    rw (← c.self.view_is) (c.in-Some.sent.now, nodes_in c.receive_at.new.nodes.items, (sym (rw c.as_slice.ensures.value at c.in-Some.ensures), c.in-Done.ensures), refl)

pub returns-in-NoAnswer-clause-fault : goal.returns-in-NoAnswer-clause-fault
returns-in-NoAnswer-clause-fault g c =
    rw (← c.self.view_is) (
      c.in-Some.sent.now,
      nodes_in c.receive_at.new.nodes.items,
      c.in-NoAnswer.field-0,
      inl (sym (rw c.as_slice.ensures.value at c.in-Some.ensures), c.in-NoAnswer.ensures),
    )

pub returns-in-Stopped-clause-answer : goal.returns-in-Stopped-clause-answer
returns-in-Stopped-clause-answer g c =
    rw (← c.self.view_is) (c.in-Some.sent.now, nodes_in c.receive_at.new.nodes.items, (sym (rw c.as_slice.ensures.value at c.in-Some.ensures), c.in-Stopped.ensures), refl)

pub returns-in-NotGossip-clause-answer : goal.returns-in-NotGossip-clause-answer
returns-in-NotGossip-clause-answer g c =
    rw (← c.self.view_is) (c.in-Some.sent.now, nodes_in c.receive_at.new.nodes.items, (sym (rw c.as_slice.ensures.value at c.in-Some.ensures), c.in-NotGossip.ensures), refl)

pub returns-in_err-number-in-Answer-clause-fault : goal.returns-in_err-number-in-Answer-clause-fault
returns-in_err-number-in-Answer-clause-fault g c =
    let p = err_from_is_err_and c.from_residual.result c.from_residual.ensures.1 in
    rw (← c.self.view_is, p.1, p.2) (answer_refused g.H.PointHash.hash_of
    (simulated_of c.self.inside.hash c.self.inside.replicas c.self.inside.moment (nodes_in c.self.inside.nodes.items) c.self.inside.messages.items)
    c.args.number c.in-Some.sent.now (nodes_in c.receive_at.new.nodes.items) c.in-Answer.taken c.in-Answer.message _
    (sym (rw c.as_slice.ensures.value at c.in-Some.ensures), c.in-Answer.ensures) c.in_err-number-in-Answer.ensures.fault)

pub returns-in_ok-number-in-Answer-clause-answer : goal.returns-in_ok-number-in-Answer-clause-answer
returns-in_ok-number-in-Answer-clause-answer g c =
    let kept = c.in_ok-number-in-Answer.ensures.number in
    rw (← c.self.view_is) (
      c.in-Some.sent.now,
      nodes_in c.receive_at.new.nodes.items,
      c.in-Answer.message,
      (sym (rw c.as_slice.ensures.value at c.in-Some.ensures), c.in-Answer.ensures),
      kept.0,
      kept.1,
      ap (λ ms. simulated_of c.self.inside.hash c.self.inside.replicas c.self.inside.moment (nodes_in c.receive_at.new.nodes.items) ms) kept.2,
    )

pub returns-in_default-clause-fault : goal.returns-in_default-clause-fault
returns-in_default-clause-fault g c = rw (← c.self.view_is) (sym (rw c.as_slice.ensures.value at c.in_default.ensures))
