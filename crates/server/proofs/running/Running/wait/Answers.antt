use Rattle.std.proofs.Common.{ap, arith, length, subst}
use Rattle.std.specs.Arc.{arc_value}
use Rattle.peer_core.specs.Acts.{Makes}
use Rattle.server.specs.Running.{Started, worker_passes}
use Rattle.server.specs.Threads.{ServeTogether}
use Rattle.server.specs.Working.{AreRounds, hosts_of}
use Rattle.server.proofs.Crew.{back_fit, crew_back, timer_back}
use Rattle.server.proofs.running.Running.wait.Goals as goal

pub returns-clause-rounds : goal.returns-clause-rounds
returns-clause-rounds g c =
    subst (λ (s : Started _ _). Makes s.server.node (AreRounds g.R.RoundClock.times s.period (hosts_of s.server.hosts) s.server.healing) s.rounds c.end_timer-rounds.result) c.self.view_is
    (timer_back g.R.RoundClock.times (arc_value c.self.inside.server) c.self.inside.timer c.end_timer-rounds.result c.self.invariant.1.0 c.end_timer-rounds.ensures).0

pub returns-clause-connections : goal.returns-clause-connections
returns-clause-connections g c =
    subst (λ (s : Started _ _). ServeTogether g.H.PointHash.hash_of (g.A.Handler.may_handle s.server.handler) s.server.node s.workers c.end_workers-connections.new.passes.items c.end_workers-connections.result)
    c.self.view_is
    (crew_back g.H.PointHash.hash_of g.A.Handler.may_handle (arc_value c.self.inside.server) c.self.inside.returned.items c.end_workers-connections.new.passes.items
    c.self.inside.workers.items c.end_workers-connections.result c.self.invariant.1.1.0 c.self.invariant.0 c.end_workers-connections.ensures.back)

pub returns-clause-fits : goal.returns-clause-fits
returns-clause-fits g c =
    let server = arc_value c.self.inside.server in
    let given = c.self.invariant.1.1.1.1 in
    let back = timer_back g.R.RoundClock.times server c.self.inside.timer c.end_timer-rounds.result c.self.invariant.1.0 c.end_timer-rounds.ensures in (
      back.0.made.fits given.0,
      back_fit g.H.PointHash.hash_of (g.A.Handler.may_handle server.handler) server.node (worker_passes c.self.inside.workers.items) c.end_workers-connections.new.passes.items
          c.end_workers-connections.result
          (crew_back g.H.PointHash.hash_of g.A.Handler.may_handle server c.self.inside.returned.items c.end_workers-connections.new.passes.items
          c.self.inside.workers.items c.end_workers-connections.result c.self.invariant.1.1.0 c.self.invariant.0 c.end_workers-connections.ensures.back)
          given.1,
    )

pub returns-clause-space : goal.returns-clause-space
returns-clause-space g c =
    let back = c.end_workers-connections.ensures.room in
    omega (arith, back.0, back.1, c.self.inside.returned.ok.0, ap length c.self.invariant.1.1.0, c.self.invariant.1.1.1.0)
