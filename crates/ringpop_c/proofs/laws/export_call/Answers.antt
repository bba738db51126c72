use Rattle.ringpop_c.proofs.Exports.{exports_are_calls}
use Rattle.ringpop_c.proofs.laws.export_call.Goals as goal

pub returns : goal.returns
returns c = exports_are_calls
