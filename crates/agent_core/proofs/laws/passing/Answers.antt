use Rattle.agent_core.specs.Parts.{joined}
use Rattle.agent_core.specs.Passing.{answer_parts, next_fields}
use Rattle.agent_core.proofs.Passed.{answer-once, body-no_request, packed-no_parts, request-more, request-once}
use Rattle.agent_core.proofs.laws.passing.Goals as goal

pub returns-clause-requests : goal.returns-clause-requests
returns-clause-requests c = request-once

pub returns-clause-answers : goal.returns-clause-answers
returns-clause-answers c = answer-once

pub returns-clause-bodies : goal.returns-clause-bodies
returns-clause-bodies c = body-no_request

pub returns-clause-next : goal.returns-clause-next
returns-clause-next c = λ method target body fields next. request-more method target body fields (next_fields next)

pub returns-clause-packs : goal.returns-clause-packs
returns-clause-packs c = λ status is_json body status2 body2 fields. packed-no_parts status is_json body (joined (answer_parts status2 body2 fields))
