use Rattle.agent_http.specs.Passing.{AreFields}
use Rattle.agent_http.proofs.passing.passing_fields.Given as goal

abbrev pub invariant-loop-name : goal.invariant-loop-name
invariant-loop-name l = AreFields l.fields.items
