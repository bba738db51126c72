use Rattle.std.proofs.lemmas.Result.{on_ok_weaker}
use Rattle.agent_http.proofs.Fields.{more_fields}
use Rattle.agent_http.proofs.passing.add_field.Goals as goal

pub returns : goal.returns
returns c = on_ok_weaker c.push_field.result (λ is. more_fields _ _ _ _ c.requires is) c.push_field.ensures
