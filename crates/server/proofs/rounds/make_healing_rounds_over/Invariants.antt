use Rattle.peer_core.specs.Acts.{Makes}
use Rattle.peer_core.specs.Healing.{heals_first}
use Rattle.line_service.specs.Answering.{IsSame}
use Rattle.server.specs.Working.{HealsRounds, first_join, hosts_of}
use Rattle.server.proofs.rounds.make_healing_rounds_over.Given as goal

-- rounds have been made, with what heals after each of them, and the hosts joined where that was due
abbrev pub invariant-loop : goal.invariant-loop
invariant-loop g l = record {
  iterates : (goal.iterator-loop g).can_next l.iterator' × (goal.iterator-loop g).is_finite l.iterator';
  made :
      Makes l.fn.member.node (HealsRounds g.R.RoundClock.times l.period (hosts_of l.server.hosts) (heals_first l.plan.own l.plan.hosts.items) (first_join (hosts_of l.server.hosts)) l.healing l.last l.due)
      l.fn.member.pass.now l.member.pass.now;
  same : IsSame l.fn.member l.member;
}
