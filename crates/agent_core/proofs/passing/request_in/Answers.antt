use Rattle.std.proofs.Common.{rules, ◌≡◌, ◌≢◌, ℕ, List, Bor, map, None, Ok, arith, subst}
use Rattle.agent_core.specs.Parts.{joined}
use Rattle.agent_core.specs.Passing.{request_parts}
use Rattle.agent_core.proofs.Parting.{other_parts}
use Rattle.agent_core.proofs.passing.request_in.Goals as goal

pub returns-in_default-clause-none : goal.returns-in_default-clause-none
returns-in_default-clause-none c =
    let none : c.parts_in.result ≡ Ok None = search rules in
    λ _ method target body fields. c.parts_in.ensures.none none (request_parts method target body fields)

pub returns-clause-none : goal.returns-clause-none
returns-clause-none c =
    let is : c.args.bytes.now ≡ joined (map (λ p. p.now) c.in-Some.parts.items) = search rules in
    λ none method target body fields.
    other_parts c.args.bytes.now (map (λ p. p.now) c.in-Some.parts.items) (request_parts method target body fields) (omega arith) is
    (subst (λ (xs : List (Bor (List ℕ))). map (λ p. p.now) xs ≢ request_parts method target body fields) c.as_slice.ensures.value
    (c.request_of.ensures.none none method target body fields))
