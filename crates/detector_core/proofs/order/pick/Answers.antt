use Rattle.std.proofs.Common.{inr}
use Rattle.detector_core.specs.Choices.{choices_of}
use Rattle.detector_core.proofs.OrderLemmas.{some_begins, IsNewOrder-first, IsNextIn-result, drawn_turn-next, drawn_turn-new}
use Rattle.detector_core.proofs.order.pick.Goals as goal

pub unwrap-target-requires : goal.unwrap-target-requires
unwrap-target-requires c =
    some_begins c.args.pingable.now c.in_ok-fresh-in-None.fresh c.take_next-in-None.result c.in_ok-fresh-in-None.ensures.permutation c.requires.some c.take_next-in-None.ensures.none

pub returns-in_ok-fresh-in-None-clause-turn : goal.returns-in_ok-fresh-in-None-clause-turn
returns-in_ok-fresh-in-None-clause-turn c =
    let next = IsNextIn-result c.args.pingable.now c.in_ok-fresh-in-None.fresh c.take_next-in-None.new.self c.take_next-in-None.result c.unwrap-target.result c.unwrap-target.ensures c.take_next-in-None.ensures.some in
    inr (IsNewOrder-first c.args.pingable.now c.args.order.now c.in_ok-fresh-in-None.fresh c.take_next-in-None.new.self c.unwrap-target.result c.in-None.ensures.none c.in_ok-fresh-in-None.ensures.permutation next)

pub returns-in-Some-clause-drawn : goal.returns-in-Some-clause-drawn
returns-in-Some-clause-drawn c =
    drawn_turn-next c.args.pingable.now c.args.order.now c.take_next.new.self c.in-Some.target (choices_of c.args.rng.now) c.in-Some.ensures.some

pub returns-in_ok-fresh-in-None-clause-drawn : goal.returns-in_ok-fresh-in-None-clause-drawn
returns-in_ok-fresh-in-None-clause-drawn c =
    let next = IsNextIn-result c.args.pingable.now c.in_ok-fresh-in-None.fresh c.take_next-in-None.new.self c.take_next-in-None.result c.unwrap-target.result c.unwrap-target.ensures c.take_next-in-None.ensures.some in
    drawn_turn-new c.args.pingable.now c.args.order.now c.in_ok-fresh-in-None.fresh c.take_next-in-None.new.self c.unwrap-target.result (choices_of c.args.rng.now) (choices_of c.shuffled.new.rng)
    c.in-None.ensures.none c.in_ok-fresh-in-None.ensures.drawn next
