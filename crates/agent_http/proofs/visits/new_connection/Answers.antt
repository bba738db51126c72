use Rattle.std.proofs.Common.{◌∙◌}
use Rattle.agent_http.proofs.Limited.{limits_are}
use Rattle.agent_http.proofs.visits.new_connection.Goals as goal

pub returns-clause-limits : goal.returns-clause-limits
returns-clause-limits c = c.new.ensures.config ∙ limits_are c.default.result c.default.ensures
