use Rattle.std.proofs.Common.{[], ◌∷◌}
use Rattle.peer_core.proofs.Exchanges.{sent_none}
use Rattle.peer_core.proofs.meeting.correct_if.Goals as goal

pub returns-else-is_misnamed-clause-sent : goal.returns-else-is_misnamed-clause-sent
returns-else-is_misnamed-clause-sent g c = sent_none (c.args.member ∷ [])
