use Rattle.std.proofs.Common.{inr, refl}
use Rattle.cli_core.specs.Simulated.{NodeAnswers, NodeLacks}
use Rattle.cli_core.proofs.ScriptPlaces.{place_answers, place_lacks}
use Rattle.cli_core.proofs.scripts.nodes.ask_at.Goals as goal

pub returns-clause-answer : goal.returns-clause-answer
returns-clause-answer g c =
    place_answers c.args.nodes.now.items c.args.address c.in-Some.place c.index_mut.result.now c.ask.new.node c.ask.result
    (λ answer before after. NodeAnswers g.H.PointHash.hash_of c.args.moment before c.args.question.now answer after) (rw c.as_slice.ensures.value at c.in-Some.ensures.place) c.index_mut.ensures.value
    c.ask.ensures.answer

pub returns-clause-memory : goal.returns-clause-memory
returns-clause-memory g c =
    place_lacks c.args.nodes.now.items c.args.address c.in-Some.place c.index_mut.result.now c.ask.new.node c.ask.result
    (λ before after. NodeLacks g.H.PointHash.hash_of c.args.moment before c.args.question.now after) (rw c.as_slice.ensures.value at c.in-Some.ensures.place) c.index_mut.ensures.value
    c.ask.ensures.memory

pub returns-in_default-clause-fault : goal.returns-in_default-clause-fault
returns-in_default-clause-fault g c = inr (refl, rw c.as_slice.ensures.value at (c.in_default.ensures.none refl))
