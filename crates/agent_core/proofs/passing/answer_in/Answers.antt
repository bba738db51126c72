use Rattle.std.proofs.Common.{rules, ◌≡◌, ◌≢◌, ℕ, List, Bor, map, None, Ok, arith, subst}
use Rattle.agent_core.specs.Parts.{joined}
use Rattle.agent_core.specs.Passing.{answer_parts}
use Rattle.agent_core.proofs.Parting.{other_parts}
use Rattle.agent_core.proofs.passing.answer_in.Goals as goal

pub returns-in_default-clause-none : goal.returns-in_default-clause-none
returns-in_default-clause-none c =
    let none : c.parts_in.result ≡ Ok None = search rules in
    λ _ status body fields least most. c.parts_in.ensures.none none (answer_parts status body fields)

pub returns-clause-none : goal.returns-clause-none
returns-clause-none c =
    let is : c.args.bytes.now ≡ joined (map (λ p. p.now) c.in-Some.parts.items) = search rules in
    λ none status body fields least most.
    other_parts c.args.bytes.now (map (λ p. p.now) c.in-Some.parts.items) (answer_parts status body fields) (omega arith) is
    (subst (λ (xs : List (Bor (List ℕ))). map (λ p. p.now) xs ≢ answer_parts status body fields) c.as_slice.ensures.value
    (c.answer_of.ensures.none none status body fields least most))
