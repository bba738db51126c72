use Rattle.peer_core.proofs.Exchanges.{calls_agree, sendings_count}
use Rattle.peer_core.proofs.Hushed.{healings_count}
use Rattle.peer_core.proofs.laws.sendings.Goals as goal

pub returns-clause-counted : goal.returns-clause-counted
returns-clause-counted g c = sendings_count g.L.Link.went

pub returns-clause-healed : goal.returns-clause-healed
returns-clause-healed g c = healings_count g.L.Link.went

pub returns-clause-agreed : goal.returns-clause-agreed
returns-clause-agreed g c = calls_agree
